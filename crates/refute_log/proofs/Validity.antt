-- What a line needs to be valid after a log with which the writer goes on, and how the writer goes on after it.
use Rattle.std.proofs.Common.{◌≡◌, ℕ, ◌+◌, ◌<◌, true, suc, List, [], ◌∷◌, ◌++◌, length, None, refl, sym, ap, ◌∙◌, subst, arith}
use Rattle.std.specs.Prelude.{IsSome, IfSome, filter_map}
use Rattle.std.specs.List.{AllByRecursion}
use Rattle.std.proofs.lemmas.Bool.{lt-ltb}
use Rattle.std.proofs.lemmas.List.{append_assoc, append-nil, length-append}
use Rattle.std.proofs.lemmas.List.Elements.{filter_map-append}
use Rattle.std.proofs.lemmas.Option.{slice_get-get_or}
use Rattle.set_meaning.specs.declared.problems.Problem.{Problem}
use Rattle.log_text.specs.declared.line.Line.{Line}
use Rattle.log_text.specs.declared.line.Line.TheVariants as lines
use Rattle.log_text.specs.Spelling.{HasSpelling, IsLog}
use Rattle.log_rules.specs.declared.nodes.Node.{Node}
use Rattle.log_rules.specs.declared.reasons.Reason.TheVariants as reason
use Rattle.log_rules.specs.Tables.{next_node, IsNext, IsTable}
use Rattle.log_rules.specs.Boxes.{Sides, AreSides}
use Rattle.log_rules.specs.States.{LogState, state_of, after, with_some, table_of, boxes_of, ends_of, node_in, box_in, end_in}
use Rattle.log_rules.specs.Rules.{IsInPlace, HasNextNumber, HasChildren, HasSides, HasScope, IsAxiom, IsBox, NamesBoxes, IsResolved, IsNewAnswer, IsAnswerBox, HoldsEverything, IsValidAfter, pivot_in}
use Rattle.log_rules.specs.Logs.{IsValidLine, AreValid}
use Rattle.log_rules.proofs.Growth.{state_grows, valid_more}
use Rattle.refute_log.specs.Writer.{WriterState, one_box, one_learned, more_nodes, begun}
use Rattle.refute_log.specs.Lines.{text_of, node_line, node_lines, Follows}
use Rattle.refute_log.proofs.Numbering.{text_of-append, all_append}

-- ---- one line

-- a line that keeps each rule
keeps_all : (p : Problem) (s : LogState) (line : Line) → IsInPlace s line → HasNextNumber s line → HasChildren s line → HasSides p s line → HasScope p line → IsAxiom p s line
    → NamesBoxes s line → IsResolved p s line → IsNewAnswer p s line → IsAnswerBox p s line → HoldsEverything p s line → s.ends ≡ [] → IsValidAfter p s line
unfolding IsValidAfter
keeps_all p s line place number children sides scope excluded boxes resolved answer box everything end reason.Form = place
keeps_all p s line place number children sides scope excluded boxes resolved answer box everything end reason.Number = number
keeps_all p s line place number children sides scope excluded boxes resolved answer box everything end reason.Children = children
keeps_all p s line place number children sides scope excluded boxes resolved answer box everything end reason.Sides = sides
keeps_all p s line place number children sides scope excluded boxes resolved answer box everything end reason.Scope = scope
keeps_all p s line place number children sides scope excluded boxes resolved answer box everything end reason.Axiom = excluded
keeps_all p s line place number children sides scope excluded boxes resolved answer box everything end reason.Boxes = boxes
keeps_all p s line place number children sides scope excluded boxes resolved answer box everything end reason.Resolvent = resolved
keeps_all p s line place number children sides scope excluded boxes resolved answer box everything end reason.Answer = answer
keeps_all p s line place number children sides scope excluded boxes resolved answer box everything end reason.AnswerBox = box
keeps_all p s line place number children sides scope excluded boxes resolved answer box everything end reason.Close = everything
keeps_all p s line place number children sides scope excluded boxes resolved answer box everything end reason.End = end

begun_after : (w : WriterState) (log : List Line) → Follows w log → (state_of log).begun ≡ true
unfolding state_of
begun_after w log f = lt-ltb 0 (length log) f.begun

ends_after : (w : WriterState) (log : List Line) → Follows w log → (state_of log).ends ≡ []
unfolding state_of
ends_after w log f = f.unended

box_after : (w : WriterState) (log : List Line) → Follows w log → w.next_box ≡ length (state_of log).boxes
unfolding state_of
box_after w log f = f.box

node_after : (w : WriterState) (log : List Line) → Follows w log → w.next_node ≡ next_node (state_of log).table
unfolding state_of
node_after w log f = f.node

-- a box that was written is there
there : (w : WriterState) (log : List Line) (k : ℕ) → Follows w log → k < w.next_box → IsBox (state_of log) k
there w log k f written =
    let count = box_after w log f in
    subst IsSome (sym (slice_get-get_or (state_of log).boxes k [] (omega (arith, count, written)))) refl

no_sides : (p : Problem) (s : LogState) (line : Line) → box_in line ≡ None → pivot_in line ≡ None → HasSides p s line
no_sides p s line none no_pivot = record {
  sides = subst (λ o. IfSome o (AreSides p.kinds s.table)) (sym none) tt;
  pivot = subst (λ o. IfSome o (λ v. v < length p.kinds)) (sym no_pivot) tt;
}

pub header_valid : (p : Problem) → IsValidLine p [] lines.Header
unfolding state_of table_of boxes_of ends_of
header_valid p = keeps_all p (state_of []) lines.Header refl tt tt (no_sides p (state_of []) lines.Header refl refl) tt tt tt tt tt tt tt refl

pub axiom_valid : (p : Problem) (w : WriterState) (log : List Line) (constraint : ℕ) (sides : Sides) → Follows w log → AreSides p.kinds (state_of log).table sides
    → HasScope p (lines.Axiom w.next_box constraint sides) → IsAxiom p (state_of log) (lines.Axiom w.next_box constraint sides) → IsValidLine p log (lines.Axiom w.next_box constraint sides)
axiom_valid p w log constraint sides f are scope excluded =
    keeps_all p (state_of log) (lines.Axiom w.next_box constraint sides) (begun_after w log f) (box_after w log f) tt (record { sides = are; pivot = tt }) scope excluded tt tt tt tt tt (ends_after w log f)

pub answer_valid : (p : Problem) (w : WriterState) (log : List Line) (values : List Rattle.log_text.specs.declared.line.LogValue.LogValue) (sides : Sides) → Follows w log
    → AreSides p.kinds (state_of log).table sides → IsNewAnswer p (state_of log) (lines.Answer w.next_box values sides) → IsAnswerBox p (state_of log) (lines.Answer w.next_box values sides)
    → IsValidLine p log (lines.Answer w.next_box values sides)
answer_valid p w log values sides f are answer box =
    keeps_all p (state_of log) (lines.Answer w.next_box values sides) (begun_after w log f) (box_after w log f) tt (record { sides = are; pivot = tt }) tt tt tt tt answer box tt (ends_after w log f)

pub resolvent_valid : (p : Problem) (w : WriterState) (log : List Line) (left right pivot : ℕ) (sides : Sides) → Follows w log → AreSides p.kinds (state_of log).table sides → pivot < length p.kinds
    → left < w.next_box → right < w.next_box → IsResolved p (state_of log) (lines.Resolvent w.next_box left right pivot sides) → IsValidLine p log (lines.Resolvent w.next_box left right pivot sides)
resolvent_valid p w log left right pivot sides f are variable on_left on_right resolved =
    keeps_all p (state_of log) (lines.Resolvent w.next_box left right pivot sides) (begun_after w log f) (box_after w log f) tt (record { sides = are; pivot = variable }) tt tt
    (there w log left f on_left, there w log right f on_right) resolved tt tt tt (ends_after w log f)

pub learned_valid : (p : Problem) (w : WriterState) (log : List Line) (k : ℕ) → Follows w log → k < w.next_box → IsValidLine p log (lines.Learned k)
learned_valid p w log k f written =
    keeps_all p (state_of log) (lines.Learned k) (begun_after w log f) tt tt (no_sides p (state_of log) (lines.Learned k) refl refl) tt tt (there w log k f written) tt tt tt tt (ends_after w log f)

pub close_valid : (p : Problem) (w : WriterState) (log : List Line) (k : ℕ) → Follows w log → k < w.next_box → HoldsEverything p (state_of log) (lines.Close k) → IsValidLine p log (lines.Close k)
close_valid p w log k f written everything =
    keeps_all p (state_of log) (lines.Close k) (begun_after w log f) tt tt (no_sides p (state_of log) (lines.Close k) refl refl) tt tt (there w log k f written) tt tt tt everything (ends_after w log f)

pub end_valid : (p : Problem) (w : WriterState) (log : List Line) → Follows w log → IsValidLine p log lines.End
end_valid p w log f = keeps_all p (state_of log) lines.End (begun_after w log f) tt tt (no_sides p (state_of log) lines.End refl refl) tt tt tt tt tt tt tt (ends_after w log f)

node_valid : (p : Problem) (w : WriterState) (log : List Line) (node : Node) → Follows w log → IsNext (state_of log).table node → IsValidLine p log (node_line w.next_node node)
node_valid p w log node f next =
    keeps_all p (state_of log) (node_line w.next_node node) (begun_after w log f) (node_after w log f) next (no_sides p (state_of log) (node_line w.next_node node) refl refl) tt tt tt tt tt tt tt (ends_after w log f)

-- ---- the writer after a line

-- the log with one more line, and the next numbers
follows_one : (w v : WriterState) (log : List Line) (line : Line) → with_some (ends_of log) (end_in line) ≡ [] → v.next_node ≡ next_node (with_some (table_of log) (node_in line))
    → v.next_box ≡ length (with_some (boxes_of log) (box_in line)) → Follows v (log ++ line ∷ [])
unfolding state_of
follows_one w v log line unended node box =
    let grown : state_of (log ++ line ∷ []) ≡ after (state_of log) line = state_grows log line in record {
      begun = (let long = length-append log (line ∷ []) in omega (arith, long));
      unended = ap (λ (s : LogState). s.ends) grown ∙ unended;
      node = node ∙ sym (ap (λ (s : LogState). next_node s.table) grown);
      box = box ∙ sym (ap (λ (s : LogState). length s.boxes) grown);
    }

one_more : (boxes : List Sides) (sides : Sides) (n : ℕ) → n ≡ length boxes → n + 1 ≡ length (boxes ++ sides ∷ [])
one_more boxes sides n is = let long = length-append boxes (sides ∷ []) in omega (arith, long, is)

pub follows_box : (w : WriterState) (log : List Line) (line : Line) → IsSome (box_in line) → Follows w log → Follows (one_box w) (log ++ line ∷ [])
follows_box w log lines.Header some f = absurd (cc)
follows_box w log (lines.Node number place lo hi) some f = absurd (cc)
follows_box w log (lines.Axiom number constraint sides) some f = follows_one w (one_box w) log (lines.Axiom number constraint sides) f.unended f.node (one_more (boxes_of log) sides w.next_box f.box)
follows_box w log (lines.Answer number values sides) some f = follows_one w (one_box w) log (lines.Answer number values sides) f.unended f.node (one_more (boxes_of log) sides w.next_box f.box)
follows_box w log (lines.Resolvent number left right pivot sides) some f =
    follows_one w (one_box w) log (lines.Resolvent number left right pivot sides) f.unended f.node (one_more (boxes_of log) sides w.next_box f.box)
follows_box w log (lines.Learned number) some f = absurd (cc)
follows_box w log (lines.Close number) some f = absurd (cc)
follows_box w log lines.End some f = absurd (cc)

pub follows_learned : (w : WriterState) (log : List Line) (k : ℕ) → Follows w log → Follows (one_learned w) (log ++ lines.Learned k ∷ [])
follows_learned w log k f = follows_one w (one_learned w) log (lines.Learned k) f.unended f.node f.box

pub follows_header : Follows begun (lines.Header ∷ [])
unfolding table_of boxes_of ends_of
follows_header = record { begun = omega arith; unended = refl; node = refl; box = refl }

-- ---- nodes

abbrev with_node : ℕ → WriterState → WriterState
with_node n w = record w { next_node = n }

follows_node : (w : WriterState) (log : List Line) (node : Node) → Follows w log → Follows (with_node (w.next_node + 1) w) (log ++ node_line w.next_node node ∷ [])
follows_node w log node f =
    follows_one w (with_node (w.next_node + 1) w) log (node_line w.next_node node) f.unended
    (let long = length-append (table_of log) (node ∷ []) in let is : w.next_node ≡ length (table_of log) + 2 = f.node in let e : w.next_node + 1 ≡ length (table_of log ++ node ∷ []) + 2 = omega arith in e)
    f.box

pub follows_nodes : (w : WriterState) (log : List Line) (more : List Node) → Follows w log → Follows (more_nodes (length more) w) (log ++ node_lines w.next_node more)
follows_nodes w log [] f =
    subst (Follows (more_nodes 0 w)) (sym (append-nil log)) (subst (λ n. Follows (with_node n w) log) (let e : w.next_node ≡ w.next_node + 0 = omega arith in e) f)
follows_nodes w log (node ∷ more) f =
    subst (Follows (more_nodes (suc (length more)) w)) (append_assoc log (node_line w.next_node node ∷ []) (node_lines (w.next_node + 1) more))
    (subst (λ n. Follows (with_node n w) ((log ++ node_line w.next_node node ∷ []) ++ node_lines (w.next_node + 1) more)) (let e : w.next_node + 1 + length more ≡ w.next_node + suc (length more) = omega arith in e)
    (follows_nodes (with_node (w.next_node + 1) w) (log ++ node_line w.next_node node ∷ []) more (follows_node w log node f)))

nodes_in : (k : ℕ) (more : List Node) → filter_map node_in (node_lines k more) ≡ more
nodes_in k [] = refl
nodes_in k (node ∷ more) = ap (λ (xs : List Node). node ∷ xs) (nodes_in (k + 1) more)

pub table_with : (log : List Line) (k : ℕ) (more : List Node) → table_of (log ++ node_lines k more) ≡ table_of log ++ more
unfolding table_of
table_with log k more = filter_map-append node_in log (node_lines k more) ∙ ap (λ (xs : List Node). filter_map node_in log ++ xs) (nodes_in k more)

first_next : (table more : List Node) (node : Node) → IsTable (table ++ node ∷ more) → IsNext table node
unfolding IsTable
first_next table more node legal = legal table more node refl

pub nodes_valid : (p : Problem) (w : WriterState) (log : List Line) (more : List Node) → Follows w log → AreValid p log → IsTable (table_of log ++ more) → AreValid p (log ++ node_lines w.next_node more)
unfolding state_of
nodes_valid p w log [] f valid legal = subst (AreValid p) (sym (append-nil log)) valid
nodes_valid p w log (node ∷ more) f valid legal =
    let one : List Line = log ++ node_line w.next_node node ∷ [] in
    let line_valid : IsValidLine p log (node_line w.next_node node) = node_valid p w log node f (first_next (table_of log) more node legal) in
    let table : table_of one ≡ table_of log ++ node ∷ [] = table_with log w.next_node (node ∷ []) in
    let rest : IsTable (table_of one ++ more) = subst IsTable (sym (ap (λ (xs : List Node). xs ++ more) table ∙ append_assoc (table_of log) (node ∷ []) more)) legal in
    subst (AreValid p) (append_assoc log (node_line w.next_node node ∷ []) (node_lines (w.next_node + 1) more))
    (nodes_valid p (with_node (w.next_node + 1) w) one more (follows_node w log node f) ((valid_more p log (node_line w.next_node node)).1 (valid, line_valid)) rest)

-- ---- texts

pub text_more : (text : List ℕ) (log more : List Line) → IsLog text log → AllByRecursion HasSpelling more → IsLog (text ++ text_of more) (log ++ more)
text_more text log more is spelled = record {
  spelled = all_append HasSpelling log more is.spelled spelled;
  whole = ap (λ (xs : List ℕ). xs ++ text_of more) is.whole ∙ sym (text_of-append log more);
}

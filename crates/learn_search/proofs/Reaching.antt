-- From what was found to what is answered: single values to an answer, and an end to answers that cover every solution.
use Rattle.std.proofs.Common.{◌≡◌, ℕ, ◌<◌, List, [], ◌∷◌, ◌++◌, map, reverse, refl, sym, ap, ◌∙◌, subst, arith}
use Rattle.std.proofs.lemmas.List.{reverse-append}
use Rattle.set_meaning.specs.declared.kinds.Value.{Value}
use Rattle.set_meaning.specs.declared.problems.Problem.{Problem}
use Rattle.set_meaning.specs.Problems.{IsProblem}
use Rattle.set_meaning.specs.Solutions.{IsAnswer}
use Rattle.bit_layout.specs.Order.{LayoutState}
use Rattle.diagram_arena.specs.declared.nodes.Ref.{Ref}
use Rattle.diagram_arena.specs.Table.{Table}
use Rattle.diagram_arena.specs.Arena.{table}
use Rattle.node_reclaim.specs.Pool.{PoolState}
use Rattle.search_rules.specs.Problem as rules
use Rattle.search_rules.specs.Trail.{Stored}
use Rattle.search_moves.specs.Answers.{HaveBoxes}
use Rattle.exact_steps.specs.Domains.{family}
use Rattle.problem_rules.specs.Parts.{values_of}
use Rattle.problem_rules.specs.Posed.{problem_of}
use Rattle.domain_trail.specs.Trail.{TrailState, held}
use Rattle.box_clauses.specs.Stored.{stored_sets}
use Rattle.pin_lists.proofs.Counting.{times-append}
use Rattle.propagators.specs.Compiled.{pinned_by}
use Rattle.box_clauses.specs.declared.store.StoredBox.{StoredBox}
use Rattle.branching.specs.Decisions.{AreSingleValues}
use Rattle.search_state.specs.Readings.{boxes_of, IsLegalState}
use Rattle.propagation.specs.Quiet.{IsQueueOf}
use Rattle.search_turns.specs.States.{IsStanding, IsFurther}
use Rattle.search_turns.specs.Outcomes.{IsSingleState, IsFoundFrom}
use Rattle.search_turns.specs.Answers.{IsLegalAtAnswer, IsResumed, IsFoundAfter}
use Rattle.search_turns.specs.declared.outcomes.Found.{Found as Reached}
use Rattle.search_turns.specs.declared.outcomes.Found.TheVariants as reached
use Rattle.learn_search.specs.declared.beginning.Begun.{Begun}
use Rattle.learn_search.specs.Stages.{AreGiven, IsReached, IsAtAnswer, IsFoundAt}
use Rattle.learn_search.specs.Standings.{StandsLegally}
use Rattle.learn_search.proofs.Answers.{AnswerLaws, is_answer, cover_all, one_more}

none_have_boxes : {X : Type 0} (p : rules.Problem X) (boxes : List (Stored X)) → HaveBoxes p boxes []
none_have_boxes {X} p boxes = λ i d within. absurd (let f : i < 0 = within in omega (arith, f))

-- ---- single values are an answer

-- what search_turns says of single values
abbrev pub SinglesAreAnswers : Problem → Type 0
SinglesAreAnswers p =
    (l : LayoutState) (t : Table) (answers : List (ℕ → Value)) (stored : List StoredBox) (trail : TrailState) (a : ℕ → Value)
    → l.kinds ≡ p.kinds → IsLegalState p l t answers stored trail → HaveBoxes (problem_of p) (boxes_of l t stored) answers → IsSingleState p l t stored trail
    → rules.IsSingle (problem_of p) (family l t trail.domains) a
    → rules.IsSolution (problem_of p) a × (rules.IsCovered (problem_of p) answers a → ⊥)

module _ (laws : AnswerLaws) (p : Problem) (law : SinglesAreAnswers p) (s : PoolState) (b : Begun) (given : List (List Value)) (at : IsReached p s b given)
    (lent : List Ref) (is_lent : lent ≡ b.trail.domains) (values : List Value) (single : AreSingleValues p (family b.layout (table s.arena) lent) values) where
  abbrev last : ℕ → Value
  last = single.some.0

  last_single : rules.IsSingle (problem_of p) (family b.layout (table s.arena) b.trail.domains) last
  last_single = subst (λ ds. rules.IsSingle (problem_of p) (family b.layout (table s.arena) ds) last) is_lent (single.each last single.some.1)

  pub reached_answer : IsAnswer p given values
  reached_answer =
      let g : AreGiven p s b given = at.given_are in
      let both = law b.layout (table s.arena) g.answers b.boxes b.trail last at.standing.compiled.kinds g.legal g.boxes at.state last_single in
      is_answer laws p at.standing.compiled.legal given g.answers g.are last values single.some.1 both.0 both.1

  pub stands_at : IsAtAnswer p s b (given ++ values ∷ [])
  stands_at = record {
    before = given;
    reached = at;
    last = last;
    single = last_single;
    are = ap (λ (v : List Value). given ++ v ∷ []) (sym single.some.1);
  }

-- ---- what was found, with the answers given

module _ (laws : AnswerLaws) (p : Problem) (legal : IsProblem p) (t : Table) (stored : List StoredBox) (trail : TrailState) (s : PoolState) (b : Begun) where
  pub found_first : (r : Reached) → IsLegalState p b.layout t [] stored trail → IsFoundFrom p b.layout t (table s.arena) stored trail b.boxes b.trail r
      → IsFurther p b.layout t (table s.arena) stored trail b.boxes b.trail
      → IsStanding p b.layout s b.compiled b.boxes b.trail → IsQueueOf b.compiled b.queue → IsFoundAt p s b [] r
  found_first reached.Single is found further standing queue = record {
    standing = standing;
    queue = queue;
    state = found;
    given_are = record { answers = []; are = refl; legal = further.legal [] is; boxes = none_have_boxes (problem_of p) (boxes_of b.layout (table s.arena) b.boxes) };
  }
  found_first reached.Complete is found further standing queue = cover_all laws p legal [] [] refl (found [] is)

-- the answers of a search that stands at one, newest first, and that they are those of its state
module _ (p : Problem) (a : PoolState) (before : Begun) (given : List (List Value)) (at : IsAtAnswer p a before given)
    (answered : (l : LayoutState) (t : Table) (answers : List (ℕ → Value)) (stored : List StoredBox) (s : TrailState) (answer : ℕ → Value) → IsLegalState p l t answers stored s
    → IsLegalState p l t (answer ∷ answers) stored s) where
  abbrev pub earlier : AreGiven p a before at.before
  earlier = at.reached.given_are

  abbrev pub all : List (ℕ → Value)
  all = at.last ∷ earlier.answers

  all_are : given ≡ reverse (map (values_of p) all)
  all_are = at.are ∙ one_more p at.before earlier.answers at.last earlier.are

  all_legal : IsLegalState p before.layout (table a.arena) all before.boxes before.trail
  all_legal = answered before.layout (table a.arena) earlier.answers before.boxes before.trail at.last earlier.legal

  pub legal_at : IsLegalAtAnswer p before.layout (table a.arena) before.boxes before.trail
  legal_at = record { answers = earlier.answers; last = at.last; single = at.single; legal = all_legal }

  pub stands_legally : (values : List Value) → values_of p at.last ≡ values → StandsLegally p a given values
  stands_legally values e = record {
    layout = before.layout;
    kinds = at.reached.standing.compiled.kinds;
    trail = before.trail;
    boxes = before.boxes;
    pinned = λ i.
        let h = at.reached.standing.pinned i in
        let f = times-append i (pinned_by before.compiled) (held before.trail ++ stored_sets before.boxes) in
        omega (arith, h, f);
    answers = all;
    are = all_are;
    legal = all_legal;
    last = at.last;
    is_last = e;
    single = at.single;
  }

  module _ (laws : AnswerLaws) (legal : IsProblem p) (s : PoolState) (b : Begun) where
    pub found_next : (r : Reached) → IsFoundAfter p before.layout (table a.arena) (table s.arena) before.boxes before.trail b.boxes b.trail r
        → IsResumed p before.layout (table a.arena) (table s.arena) before.boxes before.trail b.boxes b.trail → b.layout ≡ before.layout
        → (HaveBoxes (problem_of p) (boxes_of before.layout (table a.arena) before.boxes) earlier.answers → HaveBoxes (problem_of p) (boxes_of before.layout (table s.arena) b.boxes) all)
        → IsStanding p b.layout s b.compiled b.boxes b.trail → IsQueueOf b.compiled b.queue → IsFoundAt p s b given r
    found_next reached.Single found resumed same boxes standing queue = record {
      standing = standing;
      queue = queue;
      state = subst (λ (l : LayoutState). IsSingleState p l (table s.arena) b.boxes b.trail) (sym same) found;
      given_are = record {
        answers = all;
        are = all_are;
        legal = subst (λ (l : LayoutState). IsLegalState p l (table s.arena) all b.boxes b.trail) (sym same) (resumed.legal earlier.answers at.last at.single all_legal);
        boxes = subst (λ (l : LayoutState). HaveBoxes (problem_of p) (boxes_of l (table s.arena) b.boxes) all) (sym same) (boxes earlier.boxes);
      };
    }
    found_next reached.Complete found resumed same boxes standing queue = cover_all laws p legal given all all_are (found earlier.answers at.last at.single all_legal)

-- the last item of a list is one
last_items : {X : Type 0} (xs ys : List X) (x y : X) → xs ++ x ∷ [] ≡ ys ++ y ∷ [] → x ≡ y
last_items xs ys x y e =
    let both : x ∷ reverse xs ≡ y ∷ reverse ys = sym (reverse-append xs (x ∷ [])) ∙ ap reverse e ∙ reverse-append ys (y ∷ []) in
    cc

pub stands_after : (p : Problem) (s : PoolState) (b : Begun) (before : List (List Value)) (values : List Value) → IsAtAnswer p s b (before ++ values ∷ [])
    → ((l : LayoutState) (t : Table) (answers : List (ℕ → Value)) (stored : List StoredBox) (s : TrailState) (answer : ℕ → Value) → IsLegalState p l t answers stored s
    → IsLegalState p l t (answer ∷ answers) stored s)
    → StandsLegally p s (before ++ values ∷ []) values
stands_after p s b before values at answered =
    stands_legally p s b (before ++ values ∷ []) at answered values (sym (last_items before at.before values (values_of p at.last) at.are))

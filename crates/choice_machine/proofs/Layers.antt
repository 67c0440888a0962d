-- Layers: the first, from one to the next, and the rows of the last.
use Rattle.std.proofs.Common.{◌≡◌, ℕ, ◌+◌, ◌<◌, ◌≤◌, ◌↔◌, Bool, true, false, List, [], ◌∷◌, ◌++◌, Some, Option, length, take, refl, sym, ◌∙◌, ap, subst, arith, append_assoc, append-nil, length-append}
use Rattle.std.specs.Prelude.{slice_get, All, Any}
use Rattle.std.specs.List.{AllZip}
use Rattle.std.specs.Option.{option_map_or}
use Rattle.std.proofs.lemmas.List.{nil_from_length, take_all}
use Rattle.std.proofs.lemmas.Option.{slice_get_within}
use Rattle.std.proofs.lemmas.List.Elements.{All-nil, All-cons, All-append, All-weaker}
use Rattle.diagram_arena.specs.Table.{Word}
use Rattle.bit_machine.specs.Rules.{Rules, run, accepts}
use Rattle.choice_machine.specs.declared.rows.Row.{Row}
use Rattle.choice_machine.specs.Choices.{IsComplete, next_of, row_rules}
use Rattle.choice_machine.specs.Building.{AreStatesAt, AreStarts, IsNext, Follows, SomeAccepts, HasNext, LeadsTo, IsRowOf, IsEndOf, AppendsRows, IsLayer, AreRowsOfChoice}
use Rattle.choice_machine.proofs.Lists.{slice_get-append, slice_get-append_right, last_of, all_zip_push, all_zip_weaker, all_zip_long, all_zip_at, all_zip_right}
use Rattle.choice_machine.proofs.Joints.{run-push, follows_start, follows_next, some_accepts}

-- ---- rows that are appended

pub rows_none : {J : Type 0} (R : J → Row → Type 0) (rows : List Row) → AppendsRows R [] rows rows
rows_none R rows = ([], sym (append-nil rows), tt)

pub rows_more : {J : Type 0} (R : J → Row → Type 0) (joints more : List J) (joint : J) (row : Row) (old new newer : List Row) → AppendsRows R joints old new → R joint row
    → more ≡ joints ++ joint ∷ [] → newer ≡ new ++ row ∷ [] → AppendsRows R more old newer
rows_more R joints more joint row old new newer so here is pushed = (
  so.0 ++ row ∷ [],
  pushed ∙ ap (λ l. l ++ row ∷ []) so.1 ∙ append_assoc old so.0 (row ∷ []),
  subst (λ l. AllZip R l (so.0 ++ row ∷ [])) (sym is) (all_zip_push R joints so.0 joint row so.2 here),
)

pub rows_weaker : {J : Type 0} (R S : J → Row → Type 0) → ((j : J) (r : Row) → R j r → S j r) → (joints : List J) (old new : List Row) → AppendsRows R joints old new → AppendsRows S joints old new
rows_weaker R S f joints old new so = (so.0, so.1, all_zip_weaker R S f joints so.0 so.2)

-- ---- a layer that grows

module _ {X Q J : Type 0} (rules : X → Rules Q) (states : J → List (ℕ × Q)) (ms : List X) where
  pub next_grows : (at : ℕ) (v : Bool) (joint : List (ℕ × Q)) (nexts more nexts' : List J) (k : ℕ) → nexts' ≡ nexts ++ more → HasNext rules states ms at v joint nexts k → HasNext rules states ms at v joint nexts' k
  next_grows at v joint nexts more nexts' k grown so =
      (so.0, subst (λ l. slice_get l k ≡ Some so.0) (sym grown) (slice_get-append nexts more k so.0 so.1), so.2)

  pub leads_grow : (at : ℕ) (v : Bool) (base : ℕ) (joint : List (ℕ × Q)) (nexts more nexts' : List J) → nexts' ≡ nexts ++ more → (target : ℕ) → LeadsTo rules states ms at v base joint nexts target
      → LeadsTo rules states ms at v base joint nexts' target
  leads_grow at v base joint nexts more nexts' grown target so = (so.0, so.1, next_grows at v joint nexts more nexts' so.0 grown so.2)

  pub row_grows : (at base : ℕ) (nexts more nexts' : List J) → nexts' ≡ nexts ++ more → (joint : J) (row : Row) → IsRowOf rules states ms at base nexts joint row → IsRowOf rules states ms at base nexts' joint row
  row_grows at base nexts more nexts' grown joint row so =
      (leads_grow at false base (states joint) nexts more nexts' grown row.on_false so.0, leads_grow at true base (states joint) nexts more nexts' grown row.on_true so.1)

  -- where a bit of either value leads to
  row_leads : (at base : ℕ) (nexts : List J) (joint : J) (row : Row) → IsRowOf rules states ms at base nexts joint row
      → (v : Bool) → (k : ℕ) × (next_of v row ≡ base + k) × HasNext rules states ms at v (states joint) nexts k
  row_leads at base nexts joint row so true = so.1
  row_leads at base nexts joint row so false = so.0

  module _ (occurs : X → ℕ → Q → Type 0) where
    pub layer_first : (joint : J) → AreStatesAt occurs ms 0 (states joint) → AreStarts rules ms (length ms) (states joint) → IsLayer rules states ms occurs [] 0 (joint ∷ [])
    layer_first joint occur starts = record {
      occur = All-cons (λ j. AreStatesAt occurs ms 0 (states j)) joint [] occur (All-nil (λ j. AreStatesAt occurs ms 0 (states j)));
      some = omega arith;
      within = All-nil _;
      reached = λ more bits w long.
          let none : bits ≡ [] = nil_from_length bits long in
          subst (λ bs. (k : ℕ) × (j : J) × (slice_get (joint ∷ []) k ≡ Some j) × (run (row_rules more) 0 0 bs w ≡ 0 + k) × Follows rules ms bs w (states j)) (sym none)
          (0, joint, refl, refl, follows_start rules ms w (states joint) starts);
    }

    pub layer_next : (rows new both : List Row) (at base : ℕ) (joints nexts : List J) → base ≡ length rows + length joints → both ≡ rows ++ new → IsLayer rules states ms occurs rows at joints
        → AllZip (IsRowOf rules states ms at base nexts) joints new → All (λ j. AreStatesAt occurs ms (at + 1) (states j)) nexts → IsLayer rules states ms occurs both (at + 1) nexts
    layer_next rows new both at base joints nexts base_is both_is layer each occur =
        let long : length both ≡ base = ap length both_is ∙ length-append rows new ∙ ap (λ n. length rows + n) (all_zip_long (IsRowOf rules states ms at base nexts) joints new each) ∙ sym base_is in
        let some = layer.some in
        record {
          occur = occur;
          some = omega arith;
          within = subst (λ l. All (λ r. (r.on_false < length both + length nexts) × (r.on_true < length both + length nexts)) l) (sym both_is)
              (All-append (λ r. (r.on_false < length both + length nexts) × (r.on_true < length both + length nexts)) rows new
              (All-weaker (λ r. (r.on_false < length rows + length joints) × (r.on_true < length rows + length joints)) (λ r. (r.on_false < length both + length nexts) × (r.on_true < length both + length nexts))
              (λ r so. let a = so.0 in let b = so.1 in (omega arith, omega arith)) rows layer.within)
              (all_zip_right (IsRowOf rules states ms at base nexts) (λ r. (r.on_false < length both + length nexts) × (r.on_true < length both + length nexts))
              (λ j r so.
              let a = slice_get_within nexts so.0.0 so.0.2.0 so.0.2.1 in
              let b = slice_get_within nexts so.1.0 so.1.2.0 so.1.2.1 in
              let c = so.0.1 in
              let d = so.1.1 in
              (omega arith, omega arith)) joints new each));
          reached = λ more bits w bits_long.
              let parts = last_of at bits bits_long in
              let front = parts.0 in
              let b = parts.1 in
              let was = layer.reached (new ++ more) front w parts.3 in
              let k = was.0 in
              let joint = was.1 in
              let all : List Row = rows ++ (new ++ more) in
              let all_is : both ++ more ≡ all = ap (λ l. l ++ more) both_is ∙ append_assoc rows new more in
              let there = all_zip_at (IsRowOf rules states ms at base nexts) joints new k joint each was.2 in
              let row = there.0 in
              let found : slice_get all (length rows + k) ≡ Some row = slice_get-append_right rows (new ++ more) k ∙ slice_get-append new more k row there.1 in
              let leads = row_leads at base nexts joint row there.2 (w b) in
              let step : run (row_rules (both ++ more)) 0 0 bits w ≡ length both + leads.0 =
              ap (λ l. run (row_rules l) 0 0 bits w) all_is
              ∙ ap (λ bs. run (row_rules all) 0 0 bs w) parts.2
              ∙ run-push (row_rules all) 0 front b w at parts.3
              ∙ ap (λ q. option_map_or (next_of (w b)) (slice_get all q) 0) was.3
              ∙ ap (λ o. option_map_or (next_of (w b)) o 0) found
              ∙ leads.1 ∙ ap (λ n. n + leads.0) (sym long) in (
                leads.0,
                leads.2.0,
                leads.2.1,
                step,
                subst (λ bs. Follows rules ms bs w (states leads.2.0)) (sym parts.2) (follows_next rules ms front b w at (states joint) (states leads.2.0) parts.3 was.4 leads.2.2),
              );
        }

    pub layer_ends : (rows new both : List Row) (places : ℕ) (joints : List J) → both ≡ rows ++ new → IsLayer rules states ms occurs rows places joints
        → AllZip (IsEndOf rules states ms) joints new → AreRowsOfChoice rules ms places both
    layer_ends rows new both places joints both_is layer each =
        let long : length both ≡ length rows + length joints = ap length both_is ∙ length-append rows new ∙ ap (λ n. length rows + n) (all_zip_long (IsEndOf rules states ms) joints new each) in
        let some = layer.some in
        record {
          complete = record {
            some = omega arith;
            within = subst (λ l. All (λ r. (r.on_false < length both) × (r.on_true < length both)) l) (sym both_is)
                (All-append (λ r. (r.on_false < length both) × (r.on_true < length both)) rows new
                (All-weaker (λ r. (r.on_false < length rows + length joints) × (r.on_true < length rows + length joints)) (λ r. (r.on_false < length both) × (r.on_true < length both))
                (λ r so. let a = so.0 in let b = so.1 in (omega arith, omega arith)) rows layer.within)
                (all_zip_right (IsEndOf rules states ms) (λ r. (r.on_false < length both) × (r.on_true < length both))
                (λ j r so. let a = so.0 in let b = so.1 in (omega arith, omega arith)) joints new each));
          };
          means = λ bits w bits_long.
              let was = layer.reached new bits w bits_long in
              let k = was.0 in
              let joint = was.1 in
              let there = all_zip_at (IsEndOf rules states ms) joints new k joint each was.2 in
              let row = there.0 in
              let e : accepts (row_rules both) bits w ≡ row.accepts =
              ap (λ l. accepts (row_rules l) bits w) both_is
              ∙ ap (λ q. option_map_or (λ r. r.accepts) (slice_get (rows ++ new) q) false) was.3
              ∙ ap (λ o. option_map_or (λ r. r.accepts) o false) (slice_get-append_right rows new k ∙ there.1) in
              let means = some_accepts rules ms bits w (states joint) was.4 in
              (λ h. means.0 (there.2.2.0 (sym e ∙ h)), λ any. e ∙ there.2.2.1 (means.1 any));
        }

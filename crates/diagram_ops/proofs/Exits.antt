-- The ways in which a recursion ends: what has been made so far, and why it stopped.
use Rattle.std.proofs.Common.{◌≡◌, ℕ, ◌-◌, ◌<◌, ◌≤◌, Bool, true, false, None, Result, Ok, Err, sym, ◌∙◌, subst, arith}
use Rattle.std.specs.Prelude.{IsErr, IsErrAnd}
use Rattle.std.specs.FinMap as map
use Rattle.diagram_arena.specs.declared.nodes.NodeId.{NodeId}
use Rattle.diagram_arena.specs.declared.nodes.Ref.{Ref}
use Rattle.diagram_arena.specs.declared.nodes.Ref.TheVariants.{Node}
use Rattle.diagram_arena.specs.declared.nodes.Stop.{Stop}
use Rattle.diagram_arena.specs.declared.nodes.Stop.TheVariants.{Full, Memory}
use Rattle.diagram_arena.specs.Table.{Words, bit_end, IsLive, IsReduced}
use Rattle.diagram_arena.specs.Part.{IsPartOf}
use Rattle.diagram_arena.specs.Arena.{table, CanMake, Joins}
use Rattle.node_reclaim.specs.Pool.{PoolState}
use Rattle.diagram_ops.specs.declared.question.Question.{Question}
use Rattle.node_reclaim.specs.Growth.{Stays, NewArePartsOf}
use Rattle.diagram_ops.specs.Steps.{side, first, AreLive, asked, IsAnswer, IsStep, Answered}
use Rattle.node_reclaim.specs.Growth.{NewAre}
use Rattle.diagram_ops.proofs.Steps.{stays_self, stays_then, no_news, news_then, parts_of_part, answer_grows, live_grows, step_grows, side_part, same_asked, first_grows, first_within, joined_answer, can_join, made_part}

-- what was there stands, and each new node has the property P
pub record Sofar (old new : PoolState) (P : Words → Type 0) : Type 0 where
  pub stays : Stays old new
  pub news : NewAre (table old.arena) (table new.arena) P

pub sofar_self : (s : PoolState) (P : Words → Type 0) → IsReduced (table s.arena) → Sofar s s P
sofar_self s P ok = record { stays = stays_self s ok; news = no_news (table s.arena) P }

pub sofar_then : (a b c : PoolState) (P : Words → Type 0) → Sofar a b P → Sofar b c P → Sofar a c P
sofar_then a b c P first second = record {
  stays = stays_then a b c first.stays second.stays;
  news = news_then _ _ _ P second.stays.grows first.news second.news;
}

-- a pool that is as it was
pub sofar_same : (s b d : PoolState) (P : Words → Type 0) → d ≡ b → Sofar s b P → Sofar s d P
sofar_same s b d P e is = subst (λ x. Sofar s x P) (sym e) is

pub full_same : (b d : PoolState) → d ≡ b → map.len b.arena.nodes ≡ b.arena.limit → map.len d.arena.nodes ≡ d.arena.limit
full_same b d e is = subst (λ (x : PoolState). map.len x.arena.nodes ≡ x.arena.limit) (sym e) is

-- a stop that is passed on as it is
pub passed_on : (o : Result Ref Stop) (e : Stop) (P : Type 0) → IsErrAnd o (λ x. x ≡ e) → (e ≡ Full → P) → o ≡ Err Full → P
passed_on (Ok r) e P is full at = absurd is
passed_on (Err x) e P is full at = let same : x ≡ Full = (cc) in full (sym is ∙ same)

-- want of memory is not Full
pub not_full : (o : Result Ref Stop) (P : Type 0) → IsErrAnd o (λ x. x ≡ Memory) → o ≡ Err Full → P
not_full (Ok r) P is at = absurd is
not_full (Err x) P is at = let full : x ≡ Full = (cc) in let no : Memory ≡ Full = sym is ∙ full in absurd (cc)

-- to be a part of what a question asks for in a pool
abbrev pub PartOf : PoolState → Question → Words → Type 0
PartOf s q = λ W. IsPartOf W (asked (table s.arena) q)

-- a step of the recursion at a pool
pub record Step (s : PoolState) (q : Question) (bit : ℕ) (q_lo q_hi : Question) : Type 0 where
  pub reduced : IsReduced (table s.arena)
  pub given : AreLive (table s.arena) q
  pub at : bit ≡ first (table s.arena) q
  pub sides : IsStep (table s.arena) q bit q_lo q_hi

pub step_at : (s : PoolState) (q : Question) (bit : ℕ) (q_lo q_hi : Question) → IsReduced (table s.arena) → AreLive (table s.arena) q
    → bit ≡ first (table s.arena) q → IsStep (table s.arena) q bit q_lo q_hi → Step s q bit q_lo q_hi
step_at s q bit q_lo q_hi reduced given at sides = record { reduced = reduced; given = given; at = at; sides = sides }

pub step_stays : (s u : PoolState) (q : Question) (bit : ℕ) (q_lo q_hi : Question) → Stays s u → Step s q bit q_lo q_hi → Step u q bit q_lo q_hi
step_stays s u q bit q_lo q_hi stays is = record {
  reduced = stays.reduced;
  given = live_grows _ _ stays.grows q is.given;
  at = is.at ∙ sym (first_grows _ _ stays.grows q is.given);
  sides = step_grows _ _ stays.grows q is.given bit q_lo q_hi is.sides;
}

-- a call for one side, in a pool that has grown from s
side_call : (s a b : PoolState) (q : Question) (bit : ℕ) (q_lo q_hi : Question) (v : Bool) (o : Result Ref Stop) → Step s q bit q_lo q_hi
    → Stays s a → Answered a b (side q_lo q_hi v) o → Sofar a b (PartOf s q)
side_call s a b q bit q_lo q_hi v o step stays call = record {
  stays = call.stays;
  news = parts_of_part _ _ _ _ (side_part (table s.arena) q bit q_lo q_hi step.sides v)
      (subst (NewArePartsOf (table a.arena) (table b.arena)) (same_asked _ _ stays.grows _ (step.sides.live v)) call.parts);
}

-- after the call for the false side
pub lo_call : (s a : PoolState) (q : Question) (bit : ℕ) (q_lo q_hi : Question) (o : Result Ref Stop) → Step s q bit q_lo q_hi
    → Answered s a q_lo o → Sofar s a (PartOf s q)
lo_call s a q bit q_lo q_hi o step call = side_call s s a q bit q_lo q_hi false o step (stays_self s step.reduced) call

-- after the calls for both sides
pub hi_call : (s a b : PoolState) (q : Question) (bit : ℕ) (q_lo q_hi : Question) (lo : Ref) (o : Result Ref Stop) → Step s q bit q_lo q_hi
    → Answered s a q_lo (Ok lo) → Answered a b q_hi o → Sofar s b (PartOf s q)
hi_call s a b q bit q_lo q_hi lo o step lo_done hi_done =
    sofar_then s a b _ (lo_call s a q bit q_lo q_hi (Ok lo) step lo_done) (side_call s a b q bit q_lo q_hi true o step lo_done.stays hi_done)

-- both answers are there, in the pool that the second call left
pub record Both (s b : PoolState) (q : Question) (bit : ℕ) (q_lo q_hi : Question) (lo hi : Ref) : Type 0 where
  pub sofar : Sofar s b (PartOf s q)
  pub step : Step b q bit q_lo q_hi
  pub lo_is : IsAnswer (table b.arena) q_lo lo
  pub hi_is : IsAnswer (table b.arena) q_hi hi

pub both_calls : (s a b : PoolState) (q : Question) (bit : ℕ) (q_lo q_hi : Question) (lo hi : Ref) → Step s q bit q_lo q_hi
    → Answered s a q_lo (Ok lo) → Answered a b q_hi (Ok hi) → Both s b q bit q_lo q_hi lo hi
both_calls s a b q bit q_lo q_hi lo hi step lo_done hi_done =
    let sofar = hi_call s a b q bit q_lo q_hi lo (Ok hi) step lo_done hi_done in
    record {
      sofar = sofar;
      step = step_stays s b q bit q_lo q_hi sofar.stays step;
      lo_is = answer_grows _ _ hi_done.stays.grows q_lo lo lo_done.answer;
      hi_is = hi_done.answer;
    }

pub both_join : (s b : PoolState) (q : Question) (bit : ℕ) (q_lo q_hi : Question) (lo hi : Ref) → Both s b q bit q_lo q_hi lo hi → CanMake (table b.arena) bit lo hi
both_join s b q bit q_lo q_hi lo hi is = can_join (table b.arena) q bit q_lo q_hi lo hi is.step.sides is.lo_is is.hi_is

-- after the node over both answers
pub record Joined (s d : PoolState) (q : Question) (r : Ref) : Type 0 where
  pub sofar : Sofar s d (PartOf s q)
  pub answer : IsAnswer (table d.arena) q r

pub both_joined : (s b d : PoolState) (q : Question) (bit : ℕ) (q_lo q_hi : Question) (lo hi r : Ref) (o : Result Ref Stop) → AreLive (table s.arena) q
    → Both s b q bit q_lo q_hi lo hi → Stays b d → Joins (table b.arena) (table d.arena) bit lo hi r → o ≡ Ok r
    → ((i : NodeId) → table b.arena i ≡ None → IsLive (table d.arena) (Node i) → o ≡ Ok (Node i)) → Joined s d q r
both_joined s b d q bit q_lo q_hi lo hi r o given is stays joins was only =
    let answer = joined_answer (table b.arena) (table d.arena) q bit q_lo q_hi lo hi r is.step.given is.step.at is.step.sides is.lo_is is.hi_is stays.grows joins in
    let new : (i : NodeId) → table b.arena i ≡ None → IsLive (table d.arena) (Node i) → r ≡ Node i = λ i none live. let same : Ok r ≡ Ok (Node i) = sym was ∙ only i none live in (cc) in
    let made : Sofar b d (PartOf d q) = record { stays = stays; news = made_part _ _ (asked (table d.arena) q) r new answer.words } in
    let grown = stays_then s b d is.sofar.stays stays in
    record {
      sofar = sofar_then s b d _ is.sofar (subst (λ W. Sofar b d (λ X. IsPartOf X W)) (same_asked _ _ grown.grows q given) made);
      answer = answer;
    }

pub joined_same : (s c d : PoolState) (q : Question) (r : Ref) → d ≡ c → Joined s c q r → Joined s d q r
joined_same s c d q r e is = subst (λ x. Joined s x q r) (sym e) is

pub ends_ok : (s d : PoolState) (q : Question) (r : Ref) → IsReduced (table s.arena) → Sofar s d (PartOf s q) → IsAnswer (table d.arena) q r → Answered s d q (Ok r)
ends_ok s d q r ok sofar answer = record {
  reduced = ok;
  answer = answer;
  stays = sofar.stays;
  full = λ e. absurd (cc);
  parts = sofar.news;
}

pub ends_err : (s d : PoolState) (q : Question) (o : Result Ref Stop) → IsErr o → IsReduced (table s.arena) → Sofar s d (PartOf s q)
    → (o ≡ Err Full → map.len d.arena.nodes ≡ d.arena.limit) → Answered s d q o
ends_err s d q (Ok r) err ok sofar full = absurd (cc)
ends_err s d q (Err e) err ok sofar full = record {
  reduced = ok;
  answer = tt;
  stays = sofar.stays;
  full = full;
  parts = sofar.news;
}

-- a distance to a bound becomes less
pub fall_by : (end here step there bit : ℕ) → bit ≡ here → bit < step → there ≡ step → step ≤ end → end - there < end - here
fall_by end here step there bit at deeper same within = omega arith

-- a call for one side goes down
pub falls : (s a : PoolState) (q : Question) (bit : ℕ) (q_lo q_hi : Question) (v : Bool) → Step s q bit q_lo q_hi → Stays s a
    → bit_end - first (table a.arena) (side q_lo q_hi v) < bit_end - first (table s.arena) q
falls s a q bit q_lo q_hi v step stays =
    fall_by bit_end (first (table s.arena) q) (first (table s.arena) (side q_lo q_hi v)) (first (table a.arena) (side q_lo q_hi v)) bit
    step.at (step.sides.deeper v) (first_grows _ _ stays.grows _ (step.sides.live v)) (first_within _ step.reduced _ (step.sides.live v))

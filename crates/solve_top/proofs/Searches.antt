-- Lemmas of a search: how it is given up, and from its end to the end of the run.
use Rattle.std.proofs.Common.{◌≡◌, ◌∙◌, ℕ, List, Option, Some, None, sym, ap}
use Rattle.std.specs.FinMap as map
use Rattle.set_meaning.specs.declared.problems.Problem.{Problem}
use Rattle.node_reclaim.specs.Pool.{PoolState, pinned_refs}
use Rattle.node_reclaim.specs.Growth.{IsFull}
use Rattle.learn_search.specs.Searches.{SearchState, IsLastOf}
use Rattle.learn_search.specs.declared.search.LastState.{LastState}
use Rattle.learn_search.specs.declared.search.SearchEnd.TheVariants as ends
use Rattle.solve_top.specs.declared.status.Status.{Status}
use Rattle.solve_top.specs.declared.status.Status.TheVariants as status
use Rattle.solve_top.specs.declared.words.Task.TheVariants as tasks
use Rattle.solve_top.specs.Statuses.{StopsWith}
use Rattle.solve_top.specs.Texts.{IsAcceptedFile}
use Rattle.solve_top.specs.Endings.{EndsRoot, EndsSearch, EndsText, IsGivenUp}

-- the state of a search whose nodes ran out
pub last_state : (s : SearchState) (last : Option LastState) → s.pool.arena.limit ≡ 4000000 → s.ended ≡ Some ends.Nodes → IsLastOf s last → IsFull s.pool
    → StopsWith status.Nodes last
last_state s None limit ended last full = absurd (last ended)
last_state s (Some l) limit ended last full = record {
  limit = ap (λ (p : PoolState). p.arena.limit) last.1 ∙ limit;
  full = ap (λ (p : PoolState). map.len p.arena.nodes) last.1 ∙ full ∙ limit;
  named = last.2 ∙ ap pinned_refs (sym last.1);
}

-- ---- a search that was given up

pub given_up_search : (p : Problem) (s : Status) (out : List ℕ) (stop : Option LastState) → IsGivenUp s out stop → EndsSearch p s out
given_up_search p status.Nodes out stop h = h.0
given_up_search p status.Memory out stop h = h.0
given_up_search p status.Done out stop h = absurd h
given_up_search p status.Words out stop h = absurd h
given_up_search p status.File out stop h = absurd h
given_up_search p status.ReadFault out stop h = absurd h
given_up_search p status.WriteFault out stop h = absurd h

pub given_up_root : (p : Problem) (s : Status) (out : List ℕ) (stop : Option LastState) → IsGivenUp s out stop → EndsRoot p s out
given_up_root p status.Nodes out stop h = h.0
given_up_root p status.Memory out stop h = h.0
given_up_root p status.Done out stop h = absurd h
given_up_root p status.Words out stop h = absurd h
given_up_root p status.File out stop h = absurd h
given_up_root p status.ReadFault out stop h = absurd h
given_up_root p status.WriteFault out stop h = absurd h

pub given_up_stop : (s : Status) (out : List ℕ) (stop : Option LastState) → IsGivenUp s out stop → StopsWith s stop
given_up_stop status.Nodes out stop h = h.1
given_up_stop status.Memory out None h = tt
given_up_stop status.Memory out (Some last) h = absurd (some_is_none last h.1)
  where
    some_is_none : (last : LastState) → Some last ≡ None → ⊥
    some_is_none last e = cc
given_up_stop status.Done out stop h = absurd h
given_up_stop status.Words out stop h = absurd h
given_up_stop status.File out stop h = absurd h
given_up_stop status.ReadFault out stop h = absurd h
given_up_stop status.WriteFault out stop h = absurd h

-- ---- from the problem of a text to the text

pub search_ends : (text : List ℕ) (p : Problem) (s : Status) (out : List ℕ) → IsAcceptedFile text p → EndsSearch p s out → EndsText tasks.Solve text s out
search_ends text p status.Done out read h = record { problem = p; read = read; answered = h }
search_ends text p status.Nodes out read h = (h, (p, read))
search_ends text p status.Memory out read h = h
search_ends text p status.Words out read h = absurd h
search_ends text p status.File out read h = absurd h
search_ends text p status.ReadFault out read h = absurd h
search_ends text p status.WriteFault out read h = absurd h

pub root_ends : (text : List ℕ) (p : Problem) (s : Status) (out : List ℕ) → IsAcceptedFile text p → EndsRoot p s out → EndsText tasks.Root text s out
root_ends text p status.Done out read h = record { problem = p; read = read; root = h }
root_ends text p status.Nodes out read h = (h, (p, read))
root_ends text p status.Memory out read h = h
root_ends text p status.Words out read h = absurd h
root_ends text p status.File out read h = absurd h
root_ends text p status.ReadFault out read h = absurd h
root_ends text p status.WriteFault out read h = absurd h

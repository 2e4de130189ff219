-- What a finish returns: the queue view goes to the heir, the other views to the view just before.
use Rattle.std.specs.Prelude.{◌≡◌, List, ℕ, ◌<◌}
use Rattle.std.proofs.Math.Path.{ap, sym}
use Rattle.std.proofs.Common.{◌∙◌, eq-eqb, ne_eqb}
use Rattle.std.proofs.Math.Option.{none, some}
use Rattle.spec_words.specs.Words.{pass, halt}
use Rattle.spec_layout.specs.Layout.{NONE, queue_head, read, write}
use Rattle.spec_outcomes.specs.Finish.{heir, queue_returned}
use Rattle.spec_lists.specs.Maps.{put, put_same}
use Rattle.law_gaps.specs.Moves.{head_moved, queue_passed}
use Rattle.law_maps.specs.Meaning.{Meaning, optional, heads_in, meaning_of, memory_of, Sized}
use Rattle.law_maps.specs.Maps.{put_swap}
use Rattle.law_maps.specs.Update.{with_head, with_heads, heads_then}
use Rattle.law_maps.specs.Reads.{head_at}
use Rattle.law_maps.specs.Kept.{Becomes, becomes_then, becomes_as, becomes_at}
use Rattle.law_maps.specs.Views.{head_written}
use Rattle.law_maps.specs.Free.{optional_none, none_word, some_word}

-- the queue view of queue q goes from t to u
abbrev pub moved_in : Meaning → ℕ → ℕ → ℕ → Meaning
moved_in M q t u = with_heads M q (head_moved t u (M.heads q))

pub memory_moved : (M : Meaning) (q t u : ℕ) → memory_of (moved_in M q t u) q ≡ queue_passed t u (memory_of M q)
unfolding queue_passed
memory_moved M q t u = λ i. record {
  children = (memory_of M q).children;
  user = (memory_of M q).user;
  right = (memory_of M q).right;
  store = record { next = M.next; contents = M.contents; heads = put_same M.heads q (head_moved t u (M.heads q)) i; free = M.free };
}

module _ (m : List ℕ) (t q : ℕ) (z : Sized m) (ht : t < 128) (hq : q < 4) where
  -- t has no queue view
  pub queue_kept : heads_in m q t ≡ none → queue_returned m t q ≡ m
  unfolding queue_returned
  queue_kept e = halt _ _ (eq-eqb _ _ (none_word (read m (queue_head t q)) (sym (head_at m q t hq ht) ∙ e)))

  -- THE QUEUE VIEW GOES TO THE HEIR u
  pub queue_returned_lem : (s u : ℕ) → heads_in m q t ≡ some s → heir m t q ≡ u → u < 128 → (u ≡ t → ⊥)
      → Becomes m (queue_returned m t q) (moved_in (meaning_of m) q t u)
  unfolding queue_returned
  queue_returned_lem s u e eu hu d =
      let M = meaning_of m in
      let h = read m (queue_head t q) in
      let m1 = write m (queue_head t q) NONE in
      let here : optional h ≡ heads_in m q t = sym (head_at m q t hq ht) in
      let a = becomes_as (ap (with_head M q t) optional_none) (head_written m t q NONE z ht hq) in
      let b = becomes_as (ap (with_head (meaning_of m1) q u) here) (head_written m1 u q h a.sized hu hq) in
      becomes_at
      (sym (pass _ (ne_eqb h NONE (some_word h s (here ∙ e))) (ap (λ (c : ℕ). write m1 (queue_head c q) h) eu)))
      (becomes_as
      (heads_then M q (put (heads_in m q) t none) u (heads_in m q t)
      ∙ ap (with_heads M q) (put_swap (heads_in m q) t u none (heads_in m q t) d))
      (becomes_then (λ N. with_head N q u (heads_in m q t)) a b))

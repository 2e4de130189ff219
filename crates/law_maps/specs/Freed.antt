-- A task's record is freed: its words are zeros then. No tour comes to a free record, so nothing is read off its views.
use Rattle.std.specs.Prelude.{◌≡◌, Bool, List, ℕ, ◌+◌, ◌*◌, ◌<◌, ◌≤◌, length, replicate}
use Rattle.std.proofs.Math.Path.{refl, ap₂, fun_ext}
use Rattle.std.proofs.Common.{ap, sym, ◌∙◌, ⊎_elim, arith}
use Rattle.std.proofs.Math.Bool.{true, false}
use Rattle.std.proofs.Math.Option.{some}
use Rattle.std.proofs.Math.Dec.{ltb}
use Rattle.std.proofs.lemmas.List.{length-replicate}
use borrow.Author.Tests.{lt-ltb, le-ltb, ltb-true}
use Rattle.spec_words.specs.Words.{pick, both, true_both, both_off, both_right_off, pass, halt}
use Rattle.spec_words.specs.Blocks.{store_all}
use Rattle.spec_lists.specs.Marks.{zeros}
use Rattle.spec_lists.specs.Counting.{below?}
use Rattle.spec_layout.specs.Layout.{QUEUE_HEADS, HEADS, TAILS, free_tasks, free_task, task, address, read, write}
use Rattle.spec_rules.specs.Views.{view}
use Rattle.spec_outcomes.specs.Views.{view_of}
use Rattle.spec_outcomes.specs.Finish.{freed_record}
use Rattle.spec_lists.specs.Maps.{put}
use Rattle.law_gaps.specs.Line.{Extent, local, extent}
use Rattle.law_maps.specs.Meaning.{Meaning, optional, extent_of, heads_in, view_in, meaning_of, Sized}
use Rattle.law_maps.specs.Maps.{put_path}
use Rattle.law_maps.specs.Reads.{head_at, view_at_lem, head_same_at, view_same_at}
use Rattle.law_maps.specs.Kept.{Means, read_away, only_then}
use Rattle.law_maps.specs.TasksOnly.{TasksOnly, block_only, idle_only, idle_height_only, tasks_mean}
use Rattle.law_maps.specs.Free.{optional_some}
use Rattle.law_maps.specs.Extents.{end_local, tailed_extent}
use Rattle.law_maps.specs.Records.{record_same, record_other}

-- the view that zeros make
abbrev pub zero_view : Extent
zero_view = extent (local 0) (local 0)

-- the meaning when the record of t is zeros
abbrev pub freed_in : Meaning → ℕ → Meaning
freed_in M t = record {
  next = M.next;
  contents = M.contents;
  free = M.free;
  heads = λ q. pick (ltb q 4) (put (M.heads q) t (some 0)) (M.heads q);
  views = λ q k. pick (both (ltb q 4) (ltb k 3)) (put (M.views q k) t zero_view) (M.views q k);
}

pub zero_view_lem : extent_of (view 0 0) ≡ zero_view
zero_view_lem =
    tailed_extent 0 0 (λ e. omega (arith, e))
    ∙ ap₂ extent (end_local 0 (λ e. omega (arith, e))) (end_local 0 (λ e. omega (arith, e)))

module _ (m : List ℕ) (t : ℕ) (z : Sized m) (ht : t < 128) where
  abbrev cleared : List ℕ
  cleared = store_all m (address (task t 0)) (replicate 48 0)

  abbrev n : List ℕ
  n = freed_record m t

  all_zeros : length {A = ℕ} (replicate 48 0) ≡ 48
  all_zeros = length-replicate {A = ℕ} 48 0

  fits : 0 + length {A = ℕ} (replicate 48 0) ≤ 48
  fits = let e = all_zeros in omega (arith, e)

  -- the stack of free records has no word of a task
  same_words : (u j : ℕ) → read n (task u j) ≡ read cleared (task u j)
  unfolding freed_record address
  same_words u j = go (ltb (read m free_tasks) 128) refl
    where
      go : (b : Bool) → ltb (read m free_tasks) 128 ≡ b
          → read (pick b (write (write cleared (free_task (read m free_tasks)) t) free_tasks (read m free_tasks + 1)) cleared) (task u j) ≡ read cleared (task u j)
      go true e = unfold pick in
          let l = ltb-true (read m free_tasks) 128 e in
          read_away (write cleared (free_task (read m free_tasks)) t) free_tasks (task u j) (read m free_tasks + 1) (λ q. omega (arith, q))
          ∙ read_away cleared (free_task (read m free_tasks)) (task u j) t (λ q. omega (arith, q, l))
      go false e = unfold pick in refl

  pub freed_only : TasksOnly m n
  unfolding freed_record
  freed_only = go (ltb (read m free_tasks) 128) refl
    where
      go : (b : Bool) → ltb (read m free_tasks) 128 ≡ b
          → TasksOnly m (pick b (write (write cleared (free_task (read m free_tasks)) t) free_tasks (read m free_tasks + 1)) cleared)
      go true e = unfold pick in
          only_then (only_then (block_only m t 0 (replicate 48 0) ht fits) (idle_only cleared (read m free_tasks) t (ltb-true _ _ e))) (idle_height_only _ _)
      go false e = unfold pick in block_only m t 0 (replicate 48 0) ht fits

  freed_word : (j : ℕ) → j < 48 → read n (task t j) ≡ 0
  freed_word j h =
      same_words t j
      ∙ ap (λ (i : ℕ). read cleared (task t i)) (let e : j ≡ 0 + j = omega arith in e)
      ∙ record_same m t 0 (replicate 48 0) ht fits z.words j (let e = all_zeros in omega (arith, e, h))
      ∙ zeros 48 j

  -- no other record changes
  pub other_word : (u j : ℕ) → (u ≡ t → ⊥) → j < 48 → read n (task u j) ≡ read m (task u j)
  other_word u j d h = same_words u j ∙ record_other m t 0 (replicate 48 0) ht fits u j h (λ e a b. d e)

  heads_freed : (q : ℕ) → q < 4 → heads_in n q ≡ put (heads_in m q) t (some 0)
  heads_freed q hq =
      put_path (heads_in m q) (heads_in n q) t (some 0)
      (head_at n q t hq ht ∙ ap optional (freed_word (16 + q) (omega (arith, hq))) ∙ optional_some 0 (λ e. omega (arith, e)))
      (λ u d. head_same_at m n q u (λ a b. other_word u (QUEUE_HEADS + q) d (omega (arith, hq))))

  views_freed : (q k : ℕ) → q < 4 → k < 3 → view_in n q k ≡ put (view_in m q k) t zero_view
  unfolding view_of
  views_freed q k hq hk =
      put_path (view_in m q k) (view_in n q k) t zero_view
      (view_at_lem n q k t hq hk ht
      ∙ ap₂ (λ (x y : ℕ). extent_of (view x y)) (freed_word (20 + k * 4 + q) (omega (arith, hq, hk))) (freed_word (32 + k * 4 + q) (omega (arith, hq, hk)))
      ∙ zero_view_lem)
      (λ u d. view_same_at m n q k u (λ a b e.
      (other_word u (HEADS + k * 4 + q) d (omega (arith, hq, hk)), other_word u (TAILS + k * 4 + q) d (omega (arith, hq, hk)))))

  -- THE RECORD OF t IS FREED
  pub record_freed : Means n (freed_in (meaning_of m) t)
  record_freed =
      tasks_mean freed_only z refl refl refl
      (fun_ext λ q. ⊎_elim
      (λ h. heads_freed q h ∙ sym (halt _ _ (lt-ltb q 4 h)))
      (λ h. (fun_ext λ u. head_same_at m n q u (λ a b. absurd (let w : ⊥ = omega (arith, a, h) in w))) ∙ sym (pass _ (le-ltb q 4 h) refl))
      (below? q 4))
      (fun_ext λ q. fun_ext λ k. ⊎_elim
      (λ h. ⊎_elim
      (λ g. views_freed q k h g ∙ sym (halt _ _ (true_both (lt-ltb q 4 h) (lt-ltb k 3 g))))
      (λ g. (fun_ext λ u. view_same_at m n q k u (λ a b d. absurd (let w : ⊥ = omega (arith, b, g) in w)))
      ∙ sym (pass _ (both_right_off (ltb q 4) (le-ltb k 3 g)) refl))
      (below? k 3))
      (λ h. (fun_ext λ u. view_same_at m n q k u (λ a b d. absurd (let w : ⊥ = omega (arith, a, h) in w)))
      ∙ sym (pass _ (both_off (ltb k 3) (le-ltb q 4 h)) refl))
      (below? q 4))

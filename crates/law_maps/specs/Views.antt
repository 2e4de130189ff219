-- Queue heads and views: what a write of one of them does.
use Rattle.std.specs.Prelude.{◌≡◌, refl, List, ℕ, ◌+◌, ◌*◌, ◌<◌}
use Rattle.std.proofs.Common.{ap, ap₂, ◌∙◌, arith}
use Rattle.std.proofs.Math.Path.{fun_ext}
use Rattle.std.proofs.Math.Option.{Option}
use Rattle.spec_layout.specs.Layout.{task, head, tail, queue_head, address, read, write}
use Rattle.spec_layout.proofs.Frame.{read_same, size_write}
use Rattle.spec_rules.specs.Views.{View, view}
use Rattle.spec_outcomes.specs.Views.{view_of, set_view}
use Rattle.spec_lists.specs.Maps.{put}
use Rattle.law_gaps.specs.Line.{Extent}
use Rattle.law_maps.specs.Meaning.{optional, extent_of, heads_in, view_in, meaning_of, Sized}
use Rattle.law_maps.specs.Update.{with_head, with_view}
use Rattle.law_maps.specs.Maps.{put_path}
use Rattle.law_maps.specs.Reads.{head_at, view_at_lem, head_same_at, view_same_at}
use Rattle.law_maps.specs.Kept.{Becomes, read_away, only_then}
use Rattle.law_maps.specs.TasksOnly.{ViewsOnly, view_only, views_become}

-- two words of task records that are not the same
pub task_other : (m : List ℕ) (t k u j v : ℕ) → k < 48 → j < 48 → (u ≡ t → j ≡ k → ⊥) → read (write m (task t k) v) (task u j) ≡ read m (task u j)
unfolding address
task_other m t k u j v a b n =
    read_away m (task t k) (task u j) v (λ e. n (let z : u ≡ t = omega (arith, e, a, b) in z) (let z : j ≡ k = omega (arith, e, a, b) in z))

-- A CHANGE OF ONE QUEUE HEAD: that of task t for queue q becomes x, and no other word of any view changes
pub head_changed : (m n : List ℕ) (q t : ℕ) (x : Option ℕ) → Sized m → q < 4 → t < 128 → ViewsOnly m n → optional (read n (queue_head t q)) ≡ x
    → ((u j : ℕ) → u < 128 → j < 48 → (u ≡ t → j ≡ 16 + q → ⊥) → read n (task u j) ≡ read m (task u j))
    → Becomes m n (with_head (meaning_of m) q t x)
head_changed m n q t x z hq ht o e h = views_become o z refl refl refl heads views
  where
    heads : heads_in n ≡ put (heads_in m) q (put (heads_in m q) t x)
    heads =
        put_path (heads_in m) (heads_in n) q _
        (put_path (heads_in m q) (heads_in n q) t _ (head_at n q t hq ht ∙ e)
        (λ u d. head_same_at m n q u (λ a b. h u (16 + q) b (omega arith) (λ f g. d f))))
        (λ p d. fun_ext λ u. head_same_at m n p u (λ a b. h u (16 + p) b (omega arith) (λ f g. d (omega (arith, g)))))

    views : view_in n ≡ view_in m
    views =
        fun_ext λ p. fun_ext λ i. fun_ext λ u. view_same_at m n p i u (λ a b c. (
          h u (20 + i * 4 + p) c (omega arith) (λ f g. omega (arith, g, a, b, hq)),
          h u (32 + i * 4 + p) c (omega arith) (λ f g. omega (arith, g, a, b, hq)),
        ))

-- the write of a queue head
pub head_written : (m : List ℕ) (t q h : ℕ) → Sized m → t < 128 → q < 4 → Becomes m (write m (queue_head t q) h) (with_head (meaning_of m) q t (optional h))
head_written m t q h z ht hq =
    head_changed m (write m (queue_head t q) h) q t _ z hq ht (view_only m t (16 + q) h ht (omega arith) (omega arith))
    (ap optional (read_same m (queue_head t q) h z.words (ht, omega arith)))
    (λ u j a b d. task_other m t (16 + q) u j h (omega arith) b d)

-- A CHANGE OF ONE VIEW: k of task t of queue q becomes x, and no other word of any view changes
pub view_changed : (m n : List ℕ) (q k t : ℕ) (x : Extent) → Sized m → q < 4 → k < 3 → t < 128 → ViewsOnly m n → extent_of (view_of n q t k) ≡ x
    → ((u j : ℕ) → u < 128 → j < 48 → (u ≡ t → j ≡ 20 + k * 4 + q → ⊥) → (u ≡ t → j ≡ 32 + k * 4 + q → ⊥) → read n (task u j) ≡ read m (task u j))
    → Becomes m n (with_view (meaning_of m) q k t x)
view_changed m n q k t x z hq hk ht o e h = views_become o z refl refl refl heads views
  where
    heads : heads_in n ≡ heads_in m
    heads =
        fun_ext λ p. fun_ext λ u. head_same_at m n p u (λ a b.
        h u (16 + p) b (omega arith) (λ f g. omega (arith, g, a)) (λ f g. omega (arith, g, a)))

    other : (p i u : ℕ) → (u ≡ t → i ≡ k → p ≡ q → ⊥) → view_in n p i u ≡ view_in m p i u
    other p i u d =
        view_same_at m n p i u (λ a b c. (
          h u (20 + i * 4 + p) c (omega arith)
              (λ f g. d f (let w : i ≡ k = omega (arith, g, a, hq) in w) (let w : p ≡ q = omega (arith, g, a, hq) in w))
              (λ f g. omega (arith, g, a, b)),
          h u (32 + i * 4 + p) c (omega arith)
              (λ f g. omega (arith, g, hq, hk))
              (λ f g. d f (let w : i ≡ k = omega (arith, g, a, hq) in w) (let w : p ≡ q = omega (arith, g, a, hq) in w)),
        ))

    views : view_in n ≡ put (view_in m) q (put (view_in m q) k (put (view_in m q k) t x))
    views =
        put_path (view_in m) (view_in n) q _
        (put_path (view_in m q) (view_in n q) k _
        (put_path (view_in m q k) (view_in n q k) t x (view_at_lem n q k t hq hk ht ∙ e) (λ u d. other q k u (λ f g w. d f)))
        (λ i d. fun_ext λ u. other q i u (λ f g w. d g)))
        (λ p d. fun_ext λ i. fun_ext λ u. other p i u (λ f g w. d w))

module _ (m : List ℕ) (q k t : ℕ) (z : Sized m) (hq : q < 4) (hk : k < 3) (ht : t < 128) where
  -- the write of a view's tail
  pub tail_written : (e : ℕ) → Becomes m (write m (tail k t q) e) (with_view (meaning_of m) q k t (extent_of (view (read m (head k t q)) e)))
  unfolding view_of
  tail_written e =
      view_changed m (write m (tail k t q) e) q k t _ z hq hk ht (view_only m t (32 + k * 4 + q) e ht (omega arith) (omega arith))
      (ap₂ (λ (x y : ℕ). extent_of (view x y))
      (task_other m t (32 + k * 4 + q) t (20 + k * 4 + q) e (omega arith) (omega arith) (λ f g. omega (arith, g)))
      (read_same m (tail k t q) e z.words (ht, omega arith)))
      (λ u j a b c d. task_other m t (32 + k * 4 + q) u j e (omega arith) b d)

  -- the write of a view
  pub view_set : (v : View) → Becomes m (set_view m q t k v) (with_view (meaning_of m) q k t (extent_of v))
  unfolding set_view view_of
  view_set (view h e) =
      let m1 = write m (head k t q) h in
      view_changed m (write m1 (tail k t q) e) q k t _ z hq hk ht
      (only_then (view_only m t (20 + k * 4 + q) h ht (omega arith) (omega arith)) (view_only m1 t (32 + k * 4 + q) e ht (omega arith) (omega arith)))
      (ap₂ (λ (x y : ℕ). extent_of (view x y))
      (task_other m1 t (32 + k * 4 + q) t (20 + k * 4 + q) e (omega arith) (omega arith) (λ f g. omega (arith, g))
      ∙ read_same m (head k t q) h z.words (ht, omega arith))
      (read_same m1 (tail k t q) e (size_write m (head k t q) h ∙ z.words) (ht, omega arith)))
      (λ u j a b c d. task_other m1 t (32 + k * 4 + q) u j e (omega arith) b d ∙ task_other m t (20 + k * 4 + q) u j h (omega arith) b c)

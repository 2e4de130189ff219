-- WHERE THE FOUR QUEUES ARE LAID OUT the first segment of a queue is named by its queue view's head only.
use Rattle.std.specs.Prelude.{◌≡◌, refl, true, List, ◌∷◌, [], ℕ, zero, suc, ◌<◌, ◌≤◌}
use Rattle.std.proofs.Common.{sym, ◌∙◌, subst, ap, inl, inr, ⊎_elim, arith}
use Rattle.std.proofs.Math.Option.{none, some}
use Rattle.spec_lists.specs.Counting.{occurrences, equal?, occurs_here, occurs_append}
use Rattle.spec_layout.specs.Layout.{CHILDREN, USER, RIGHT}
use Rattle.spec_lists.specs.Maps.{All, put_other, all_at}
use Rattle.law_gaps.specs.Line.{End, nonlocal, local, extent, Line, exits, entries, first_chain, base, exited, entered, pass, segments}
use Rattle.law_gaps.specs.Store.{head_of}
use Rattle.law_gaps.proofs.Names.{OnlyHead, only_head, Unnamed, unnamed}
use Rattle.law_gaps.proofs.Pool.{mine}
use Rattle.law_gaps.proofs.Frames.{clash}
use Rattle.law_maps.specs.Meaning.{meaning_of, heads_in, view_in, store_in}
use Rattle.law_invariant.specs.Represents.{alive, of_tasks, queue_memory}
use Rattle.law_invariant.specs.Laids.{Laids, apart, mine_one}
use Rattle.law_invariant.specs.Views.{children_word, user_word, right_word, head_word}
use Rattle.law_invariant.specs.Covered.{AllOrNone, Covered}
use Rattle.law_invariant.specs.Naming.{Names}

not_nonlocal : {g : ℕ} → local g ≡ nonlocal → ⊥
not_nonlocal e = let z : ◌≡◌ {A = ℕ} 0 1 = cc in omega (arith, z)

-- the first segment of a line stands among its segments
pub first_in : (l : Line) (g : ℕ) (c : List ℕ) → first_chain l ≡ g ∷ c → 0 < occurrences g (segments l)
first_in l g c e = let a = go l in let b = ap (occurrences g) e in let d = occurs_here g g c refl in omega (arith, a, b, d)
  where
    go : (l : Line) → occurrences g (first_chain l) ≤ occurrences g (segments l)
    go [] = omega arith
    go (base d ∷ l) = let f = occurs_append g d (segments l) in omega (arith, f)
    go (exited t ∷ l) = go l
    go (entered t d ∷ l) = let f = occurs_append g d (segments l) in let k = go l in omega (arith, f, k)
    go (pass x ∷ l) = go l

module _ (own : ℕ → ℕ) (own-one : (x : ℕ) → own x ≤ 1) (n : List ℕ) (T : List ℕ) (holder : ℕ → ℕ) (line : ℕ → Line)
    (laids : Laids own (store_in n 0) (queue_memory n) holder line) (in_use : (x : ℕ) → x < 128 → 0 < occurrences x T → alive n x ≡ true)
    (covered : (p : ℕ) → p < 4 → Covered (queue_memory n p) T (line p)) (q : ℕ) (small : q < 4) (live : alive n (holder q) ≡ true)
    (g : ℕ) (c : List ℕ) (first : first_chain (line q) ≡ g ∷ c) where
  abbrev h : ℕ
  h = holder q

  single : (x : ℕ) → mine (queue_memory n q).store (line q) x ≤ 1
  unfolding queue_memory of_tasks
  single = mine_one own own-one (store_in n 0) line laids.pool q small

  only_q : OnlyHead (queue_memory n q) h (line q) g
  only_q =
      only_head (mine (queue_memory n q).store (line q)) single (queue_memory n q) h (line q) g c (laids.laid q small) first

  none_p : (p : ℕ) → p < 4 → (p ≡ q → ⊥) → Unnamed (queue_memory n p) (line p) g
  none_p p i k =
      unnamed (mine (queue_memory n p).store (line p)) (queue_memory n p) (holder p) (line p) g (laids.laid p i)
      (let a = apart own own-one (store_in n 0) line laids.pool p q i small k g in
      let b = first_in (line q) g c first in
      omega (arith, a, b))

  -- a queue head
  by_head : (x p : ℕ) → x < 128 → 0 < occurrences x T → p < 4 → heads_in n p x ≡ some g → (x ≡ h) × (p ≡ q)
  by_head x p l t i e =
      let seen = sym (head_word n p x (in_use x l t)) ∙ e in
      ⊎_elim
      (λ d. (⊎_elim (λ z. z) (λ z. absurd (not_held d seen z)) (equal? x h), d))
      (λ d. absurd ((none_p p i d).no_head x seen))
      (equal? p q)
    where
      not_held : p ≡ q → (queue_memory n p).store.heads x ≡ some g → (x ≡ h → ⊥) → ⊥
      not_held d seen z =
          let s = subst (λ (y : ℕ). (queue_memory n y).store.heads x ≡ some g) d seen in
          let k = (laids.laid q small).held.head x ∙ put_other (λ y. none) h (head_of (first_chain (line q))) x z in
          let w : none ≡ some g = sym k ∙ s in
          let v : ◌≡◌ {A = ℕ} 0 1 = cc in
          omega (arith, v)

  -- a view's head
  abbrev Views : ℕ → Type 0
  Views p =
      All (λ t. (b y : End) → (queue_memory n p).children t ≡ extent b y → b ≡ nonlocal) (exits (line p))
      × All (λ t. (b y : End) → (queue_memory n p).user t ≡ extent b y → b ≡ nonlocal) (entries (line p))
      × All (λ t. (y : End) → (queue_memory n p).right t ≡ extent (local g) y → ⊥) (entries (line p))

  no_views : (p : ℕ) → p < 4 → Views p
  no_views p i =
      ⊎_elim
      (λ e. subst Views (sym e) (only_q.no_children, only_q.no_user, only_q.no_right))
      (λ k. let u = none_p p i k in (u.no_children, u.no_user, u.no_right))
      (equal? p q)

  by_view : (x p k : ℕ) → x < 128 → 0 < occurrences x T → p < 4 → k < 3 → (y : End) → view_in n p k x ≡ extent (local g) y → ⊥
  by_view x p k l t i j y e = go k j e (covered p i x l t)
    where
      C : view_in n p CHILDREN x ≡ (queue_memory n p).children x
      C = children_word n p x (in_use x l t)

      U : view_in n p USER x ≡ (queue_memory n p).user x
      U = user_word n p x (in_use x l t)

      R : view_in n p RIGHT x ≡ (queue_memory n p).right x
      R = right_word n p x (in_use x l t)

      go : (k : ℕ) → k < 3 → view_in n p k x ≡ extent (local g) y → AllOrNone (queue_memory n p) (line p) x → ⊥
      go zero j e (inl w) = not_nonlocal (all_at _ (exits (line p)) x (no_views p i).0 w.1 _ y (sym C ∙ e))
      go (suc zero) j e (inl w) = not_nonlocal (all_at _ (entries (line p)) x (no_views p i).1 w.0 _ y (sym U ∙ e))
      go (suc (suc zero)) j e (inl w) = all_at _ (entries (line p)) x (no_views p i).2 w.0 y (sym R ∙ e)
      go zero j e (inr w) = clash _ w.0 (sym C ∙ e)
      go (suc zero) j e (inr w) = clash _ w.1 (sym U ∙ e)
      go (suc (suc zero)) j e (inr w) = clash _ w.2 (sym R ∙ e)
      go (suc (suc (suc k))) j e w = omega (arith, j)

  pub first_names : Names (meaning_of n) T g h q
  first_names =
      record {
        head = head_word n q h live ∙ only_q.head_names;
        heads = λ x p l t i e. by_head x p l t i e;
        views = λ x p k l t i j y e. by_view x p k l t i j y e;
      }

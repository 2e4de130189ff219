-- FINISH, THE RECORD IS FREE: no queue's memory changes, since the task had no view any more.
use Rattle.std.specs.Prelude.{◌≡◌, Bool, List, [], ◌∷◌, ℕ, ◌+◌, ◌-◌, ◌*◌, ◌<◌, ◌≤◌, eqb}
use Rattle.std.proofs.Math.Path.{refl, ap, sym, fun_ext}
use Rattle.std.proofs.Common.{ap₂, ◌∙◌, subst, ⊎_elim, arith}
use Rattle.std.proofs.Math.Bool.{true, false, not}
use Rattle.std.proofs.Math.Option.{none}
use Rattle.std.proofs.Math.Dec.{ltb}
use borrow.Author.Tests.{ltb-true, ltb-false, eq-eqb}
use Rattle.spec_words.specs.Words.{pick, halt, pass as skip, both, both_right_off}
use Rattle.spec_lists.specs.Counting.{one, occurrences, equal?, occurs_not}
use Rattle.spec_layout.specs.Layout.{STATUS, RIGHTS, FREE, QUEUE_HEADS, HEADS, TAILS, CHILDREN, USER, RIGHT, number_word, task, rights_of as rights_in}
use Rattle.spec_layout.specs.Layout.{read}
use Rattle.spec_tree.specs.Rights.{uses}
use Rattle.spec_outcomes.specs.Finish.{unlinked, freed_record}
use Rattle.spec_lists.specs.Maps.{All}
use Rattle.law_gaps.specs.Line.{vacant, base, exited, entered, pass, Line, marks, Fits}
use Rattle.law_links.specs.Finish.{Finished}
use Rattle.law_maps.specs.Meaning.{Meaning, meaning_of, next_in, contents_in, free_in, heads_in, view_in, Sized}
use Rattle.law_maps.specs.Reads.{head_same_at, view_same_at}
use Rattle.law_maps.specs.Kept.{Kept, Means}
use Rattle.law_maps.specs.Tree.{LinksOnly, links_mean}
use Rattle.law_maps.specs.Freed.{freed_in, freed_only, other_word, record_freed}
use Rattle.law_invariant.specs.Represents.{alive, of_tasks, queue_memory, uses_in, opened}
use Rattle.law_invariant.specs.Covered.{Vacant}

-- the task of a mark that is none of t's
other_task : (x t : ℕ) → (x ≡ t → ⊥) → (x ≡ 128 + t → ⊥) → pick (ltb x 128) x (x - 128) ≡ t → ⊥
other_task x t a b e = go (ltb x 128) refl
  where
    go : (c : Bool) → ltb x 128 ≡ c → ⊥
    go true d = a (sym (halt x (x - 128) d) ∙ e)
    go false d = let l = ltb-false x 128 d in let f = sym (skip x d refl) ∙ e in b (omega (arith, l, f))

-- A LINE WITHOUT MARKS OF t fits where only t's rights are others.
pub fits_without : (u w : ℕ → Bool) (t : ℕ) → ((x : ℕ) → (x ≡ t → ⊥) → w x ≡ u x) → (l : Line) → occurrences t (marks l) ≡ 0
    → occurrences (128 + t) (marks l) ≡ 0
    → All (Fits u) l → All (Fits w) l
fits_without u w t same [] a b h = tt
fits_without u w t same (base c ∷ l) a b h = (tt, fits_without u w t same l a b h.1)
fits_without u w t same (exited x ∷ l) a b h =
    let i = occurs_not (128 + x) t (marks l) a in
    let j = occurs_not (128 + x) (128 + t) (marks l) b in
    (same x (λ e. j.0 (ap (λ (y : ℕ). 128 + y) e)) ∙ h.0, fits_without u w t same l i.1 j.1 h.1)
fits_without u w t same (entered x c ∷ l) a b h =
    let i = occurs_not x t (marks l) a in
    let j = occurs_not x (128 + t) (marks l) b in
    (same x i.0 ∙ h.0, fits_without u w t same l i.1 j.1 h.1)
fits_without u w t same (pass x ∷ l) a b h =
    let i = occurs_not x t (marks l) a in
    let j = occurs_not x (128 + t) (marks l) b in
    (same (pick (ltb x 128) x (x - 128)) (other_task x t i.0 j.0) ∙ h.0, fits_without u w t same l i.1 j.1 h.1)

-- THE WORDS n, which have the tree of m, and those where the record of t is free
module _ (m n : List ℕ) (t : ℕ) (small : t < 128) (kept : Kept m n) (sized : Sized n) (only : LinksOnly n (unlinked n t))
    (w : Finished m (freed_record (unlinked n t) t) t) where
  abbrev u : List ℕ
  u = unlinked n t

  abbrev f : List ℕ
  f = freed_record u t

  halfway : Means u (meaning_of n)
  halfway = links_mean sized only

  whole : Means f (freed_in (meaning_of u) t)
  whole = record_freed u t halfway.sized small

  pub freed_sized : Sized f
  freed_sized = whole.sized

  -- segments are as they were
  pub freed_next : next_in f ≡ next_in n
  freed_next = ap (λ (M : Meaning). M.next) whole.means ∙ ap (λ (M : Meaning). M.next) halfway.means

  pub freed_contents : contents_in f ≡ contents_in n
  freed_contents = ap (λ (M : Meaning). M.contents) whole.means ∙ ap (λ (M : Meaning). M.contents) halfway.means

  pub freed_free : free_in f ≡ free_in n
  freed_free = ap (λ (M : Meaning). M.free) whole.means ∙ ap (λ (M : Meaning). M.free) halfway.means

  pub freed_number : read f number_word ≡ read m number_word
  freed_number =
      (freed_only u t halfway.sized small).same number_word (omega arith, λ q. omega (arith, q))
      ∙ only.only.same number_word (omega arith, λ q. omega (arith, q))
      ∙ kept.number

  pub freed_opened : opened f ≡ opened m
  unfolding opened
  freed_opened = fun_ext λ s. ap (λ (x : ℕ). one (ltb s x)) freed_number

  -- the words of views of the other tasks
  view_word : (x j : ℕ) → x < 128 → (x ≡ t → ⊥) → 16 ≤ j → j < 48 → read f (task x j) ≡ read n (task x j)
  view_word x j l k a b = other_word u t halfway.sized small x j k b ∙ only.views x j l a b

  same_head : (q x : ℕ) → q < 4 → (x ≡ t → ⊥) → heads_in f q x ≡ heads_in n q x
  same_head q x i k = head_same_at n f q x (λ a b. view_word x (QUEUE_HEADS + q) b k (omega arith) (omega (arith, i)))

  same_view : (q j x : ℕ) → q < 4 → j < 3 → (x ≡ t → ⊥) → view_in f q j x ≡ view_in n q j x
  same_view q j x i l k =
      view_same_at n f q j x
      (λ a b d. (
        view_word x (HEADS + j * 4 + q) d k (omega arith) (omega (arith, i, l)),
        view_word x (TAILS + j * 4 + q) d k (omega arith) (omega (arith, i, l)),
      ))

  -- status and rights of the other tasks
  fixed : (x k : ℕ) → x < 128 → k < 2 → (x ≡ t → ⊥) → read f (task x k) ≡ read m (task x k)
  fixed x k l i d =
      w.others x k l (omega (arith, i)) d (λ e. let g = e.1 in omega (arith, g, i)) (λ e. let g = e.2 in omega (arith, g, i))
      (λ e. let g = e.1 in omega (arith, g, i))

  same_alive : (x : ℕ) → (x ≡ t → ⊥) → alive f x ≡ alive n x
  unfolding alive both pick
  same_alive x d = go (ltb x 128) refl
    where
      go : (b : Bool) → ltb x 128 ≡ b → pick b (not (eqb (read f (task x STATUS)) FREE)) false ≡ pick b (not (eqb (read n (task x STATUS)) FREE)) false
      go true e =
          let l = ltb-true x 128 e in
          ap (λ (y : ℕ). not (eqb y FREE)) (fixed x STATUS l (omega arith) d ∙ sym (kept.links x STATUS l (omega arith)))
      go false e = refl

  not_alive : alive f t ≡ false
  unfolding alive
  not_alive = both_right_off (ltb t 128) (ap not (eq-eqb _ _ w.status))

  pub freed_uses : (q x : ℕ) → (x ≡ t → ⊥) → uses_in f q x ≡ uses_in m q x
  unfolding uses_in both pick
  freed_uses q x d = go (ltb x 128) refl
    where
      go : (b : Bool) → ltb x 128 ≡ b → pick b (uses (rights_in f x) q) false ≡ pick b (uses (rights_in m x) q) false
      go true e = ap (λ (y : ℕ). uses y q) (fixed x RIGHTS (ltb-true x 128 e) (omega arith) d)
      go false e = refl

  -- THE MEMORY OF A QUEUE in which t has neither views nor the queue view
  module _ (q : ℕ) (i : q < 4) (gone : Vacant (queue_memory n q) t) (no_head : (queue_memory n q).store.heads t ≡ none) where
    masked : {A : Type 0} (g k : ℕ → A) (d : A) → ((x : ℕ) → (x ≡ t → ⊥) → g x ≡ k x) → pick (alive n t) (k t) d ≡ d
        → ◌≡◌ {A = ℕ → A} (λ x. pick (alive f x) (g x) d) (λ x. pick (alive n x) (k x) d)
    masked g k d same here =
        fun_ext λ x.
        ⊎_elim
        (λ e. subst (λ (y : ℕ). pick (alive f y) (g y) d ≡ pick (alive n y) (k y) d) (sym e) (skip (g t) not_alive refl ∙ sym here))
        (λ e. ap₂ (λ (b : Bool) y. pick b y d) (same_alive x e) (same x e))
        (equal? x t)

    pub freed_memory : queue_memory f q ≡ queue_memory n q
    unfolding queue_memory of_tasks
    freed_memory = λ j. record {
      children = masked (view_in f q CHILDREN) (view_in n q CHILDREN) vacant (λ x d. same_view q CHILDREN x i (omega arith) d) gone.0 j;
      user = masked (view_in f q USER) (view_in n q USER) vacant (λ x d. same_view q USER x i (omega arith) d) gone.1 j;
      right = masked (view_in f q RIGHT) (view_in n q RIGHT) vacant (λ x d. same_view q RIGHT x i (omega arith) d) gone.2 j;
      store =
          record {
            next = freed_next j;
            contents = freed_contents j;
            heads = masked (heads_in f q) (heads_in n q) none (λ x d. same_head q x i d) no_head j;
            free = freed_free j;
          };
    }

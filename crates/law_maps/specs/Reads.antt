-- Equal words give equal meaning: each part of the meaning by the words that it is read from, and a part where one
-- segment, one task or the top of the stack has changed.
use Rattle.std.specs.Prelude.{◌≡◌, refl, Bool, true, false, ℕ, zero, suc, ◌+◌, ◌*◌, ◌<◌, ◌≤◌, ltb}
use Rattle.std.proofs.Math.Path.{ap, ap₂, fun_ext}
use Rattle.std.proofs.Common.{sym, ◌∙◌, arith, lt-ltb, ltb-true}
use Rattle.std.proofs.Math.Option.{none}
use mathlib.Core.List.{List, [], ◌∷◌, ◌++◌}
use Rattle.spec_words.specs.Words.{pick, both, both_true, true_both, halt}
use Rattle.spec_layout.specs.Layout.{free_segments, free_segment, task, value, first, count, next, length_of, value_word, queue_head, head, tail, read}
use Rattle.spec_rules.specs.Views.{view}
use Rattle.spec_outcomes.specs.Segments.{place, value_at}
use Rattle.spec_outcomes.specs.Views.{view_of}
use Rattle.law_gaps.specs.Line.{vacant}
use Rattle.law_maps.specs.Meaning.{optional, extent_of, listed, stack, next_in, contents_in, free_in, heads_in, view_in}

-- what is chosen by a test, where the test holds
pub pick_path : {A : Type 0} (b : Bool) (x y z : A) → (b ≡ true → x ≡ y) → pick b x z ≡ pick b y z
unfolding pick
pick_path true x y z h = h refl
pick_path false x y z h = refl

-- LISTS
pub listed_path : (f g : ℕ → ℕ) (n : ℕ) → ((k : ℕ) → k < n → g k ≡ f k) → listed g n ≡ listed f n
unfolding listed
listed_path f g zero h = refl
listed_path f g (suc n) h =
    ap₂ (λ (x : ℕ) (l : List ℕ). x ∷ l) (h 0 (omega arith)) (listed_path (λ k. f (suc k)) (λ k. g (suc k)) n (λ k l. h (suc k) (omega arith)))

-- one more at the end
pub listed_last : (f : ℕ → ℕ) (n : ℕ) → listed f (suc n) ≡ listed f n ++ f n ∷ []
unfolding listed
listed_last f zero = refl
listed_last f (suc n) = ap (λ (l : List ℕ). f 0 ∷ l) (listed_last (λ k. f (suc k)) n)

pub stack_path : (f g : ℕ → ℕ) (n : ℕ) → ((k : ℕ) → k < n → g k ≡ f k) → stack g n ≡ stack f n
unfolding stack
stack_path f g zero h = refl
stack_path f g (suc n) h = ap₂ (λ (x : ℕ) (l : List ℕ). x ∷ l) (h n (omega arith)) (stack_path f g n (λ k l. h k (omega arith)))

-- THE PARTS at one place inside the limits
pub next_at : (m : List ℕ) (s : ℕ) → s < 256 → next_in m s ≡ optional (read m (next s))
unfolding next_in
next_at m s h = halt _ _ (lt-ltb _ _ h)

pub contents_at : (m : List ℕ) (s : ℕ) → s < 256 → contents_in m s ≡ listed (value_at m s) (read m (count s))
unfolding contents_in
contents_at m s h = halt _ _ (lt-ltb _ _ h)

pub head_at : (m : List ℕ) (q t : ℕ) → q < 4 → t < 128 → heads_in m q t ≡ optional (read m (queue_head t q))
unfolding heads_in
head_at m q t hq ht = halt _ _ (true_both (lt-ltb _ _ hq) (lt-ltb _ _ ht))

pub view_at_lem : (m : List ℕ) (q k t : ℕ) → q < 4 → k < 3 → t < 128 → view_in m q k t ≡ extent_of (view_of m q t k)
unfolding view_in
view_at_lem m q k t hq hk ht = halt _ _ (true_both (lt-ltb _ _ hq) (true_both (lt-ltb _ _ hk) (lt-ltb _ _ ht)))

-- a value by its word
pub value_word_lem : (m : List ℕ) (s k l f : ℕ) → length_of m s ≡ l → read m (first s) ≡ f → value_at m s k ≡ read m (value (s * l + place l f k))
unfolding value_at
value_word_lem m s k l f el ef = ap₂ (λ (x y : ℕ). read m (value (s * x + place x y k))) el ef

-- THE PARTS of two memories with equal words
module _ (m n : List ℕ) where
  pub next_same_at : (s : ℕ) → (s < 256 → read n (next s) ≡ read m (next s)) → next_in n s ≡ next_in m s
  unfolding next_in
  next_same_at s h = pick_path (ltb s 256) _ _ none (λ b. ap optional (h (ltb-true _ _ b)))

  pub next_same : ((s : ℕ) → s < 256 → read n (next s) ≡ read m (next s)) → next_in n ≡ next_in m
  next_same h = fun_ext λ s. next_same_at s (h s)

  pub value_same : (s k : ℕ) → length_of n s ≡ length_of m s → read n (first s) ≡ read m (first s)
      → (let f = value_word m s (place (length_of m s) (read m (first s)) k) in read n f ≡ read m f) → value_at n s k ≡ value_at m s k
  value_same s k el ef h = value_word_lem n s k _ _ el ef ∙ h ∙ sym (value_word_lem m s k _ _ refl refl)

  pub contents_same_at : (s : ℕ) → length_of n s ≡ length_of m s
      → (s < 256 → (read n (first s) ≡ read m (first s)) × (read n (count s) ≡ read m (count s)))
      → ((k : ℕ) → let f = value_word m s (place (length_of m s) (read m (first s)) k) in read n f ≡ read m f)
      → contents_in n s ≡ contents_in m s
  unfolding contents_in
  contents_same_at s el hs hv =
      pick_path (ltb s 256) _ _ [] (λ b.
      let h = hs (ltb-true _ _ b) in
      ap (listed (value_at n s)) h.1 ∙ listed_path (value_at m s) (value_at n s) (read m (count s)) (λ k l. value_same s k el h.0 (hv k)))

  pub contents_same : ((s : ℕ) → length_of n s ≡ length_of m s)
      → ((s : ℕ) → s < 256 → (read n (first s) ≡ read m (first s)) × (read n (count s) ≡ read m (count s)))
      → ((i : ℕ) → read n (value i) ≡ read m (value i)) → contents_in n ≡ contents_in m
  contents_same el hs hv = fun_ext λ s. contents_same_at s (el s) (hs s) (λ k. hv _)

  pub free_same : read n free_segments ≡ read m free_segments → ((i : ℕ) → i < read m free_segments → read n (free_segment i) ≡ read m (free_segment i))
      → free_in n ≡ free_in m
  unfolding free_in
  free_same e h =
      ap (stack (λ i. read n (free_segment i))) e ∙ stack_path (λ i. read m (free_segment i)) (λ i. read n (free_segment i)) (read m free_segments) h

  pub head_same_at : (q t : ℕ) → (q < 4 → t < 128 → read n (queue_head t q) ≡ read m (queue_head t q)) → heads_in n q t ≡ heads_in m q t
  unfolding heads_in
  head_same_at q t h =
      pick_path (both (ltb q 4) (ltb t 128)) _ _ none (λ b. let w = both_true _ _ b in ap optional (h (ltb-true _ _ w.0) (ltb-true _ _ w.1)))

  pub view_same_at : (q k t : ℕ) → (q < 4 → k < 3 → t < 128 → (read n (head k t q) ≡ read m (head k t q)) × (read n (tail k t q) ≡ read m (tail k t q)))
      → view_in n q k t ≡ view_in m q k t
  unfolding view_in view_of
  view_same_at q k t h =
      pick_path (both (ltb q 4) (both (ltb k 3) (ltb t 128))) _ _ vacant (λ b.
      let w = both_true _ _ b in
      let u = both_true _ _ w.1 in
      let e = h (ltb-true _ _ w.0) (ltb-true _ _ u.0) (ltb-true _ _ u.1) in
      ap₂ (λ (x y : ℕ). extent_of (view x y)) e.0 e.1)

  -- all words of the views are equal
  module _ (h : (t k : ℕ) → t < 128 → 16 ≤ k → k < 48 → read n (task t k) ≡ read m (task t k)) where
    pub heads_same : heads_in n ≡ heads_in m
    heads_same = fun_ext λ q. fun_ext λ t. head_same_at q t (λ hq ht. h t (16 + q) ht (omega arith) (omega arith))

    pub views_same : view_in n ≡ view_in m
    views_same =
        fun_ext λ q. fun_ext λ k. fun_ext λ t. view_same_at q k t (λ hq hk ht.
        (h t (20 + k * 4 + q) ht (omega arith) (omega arith), h t (32 + k * 4 + q) ht (omega arith) (omega arith)))

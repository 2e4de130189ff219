-- A new core: segment q is the only one of queue q and is empty, all others are free, the top has all views.
use Rattle.std.specs.Prelude.{◌≡◌, List, [], ◌∷◌, ltb, eqb}
use Rattle.std.proofs.Math.Path.{refl, ap, ap₂, sym, fun_ext}
use Rattle.std.proofs.Common.{subst, ◌∙◌, arith}
use Rattle.std.proofs.Math.Logic.{⊎_elim}
use Rattle.std.proofs.Math.Option.{none, some}
use Prim.Native.Nat.{ℕ, zero, suc, ◌+◌, ◌-◌, ◌*◌, ◌<◌, ◌≤◌}
use borrow.Author.Tests.{eq-eqb, ne_eqb, lt-ltb, le-ltb, ltb-true}
use Rattle.spec_words.specs.Words.{load, pick, both, both_true, pass, halt}
use Rattle.spec_lists.specs.Counting.{equal?, below?}
use Rattle.spec_layout.specs.Layout.{NONE, NL, HEADS, TAILS, VIEW_WORDS, USER, number_word, free_segment, task, first, count, next, queue_head, read}
use Rattle.spec_tree.specs.Queues.{by_four}
use Rattle.spec_rules.specs.Views.{view}
use Rattle.spec_outcomes.specs.Segments.{value_at}
use Rattle.spec_outcomes.specs.Views.{view_of}
use Rattle.spec_outcomes.specs.Open.{top_views, opened}
use Rattle.law_gaps.specs.Line.{nonlocal, local, Extent, vacant, extent}
use Rattle.law_maps.specs.Meaning.{Meaning, optional, extent_of, listed, stack, next_in, contents_in, free_in, heads_in, view_in, meaning_of, Sized}
use Rattle.law_maps.specs.Update.{meaning_path}
use Rattle.law_maps.specs.Reads.{pick_path}
use Rattle.law_maps.specs.Kept.{Means}
use Rattle.law_maps.specs.Free.{optional_none, optional_some}
use Rattle.law_maps.specs.Extents.{end_nonlocal, end_local, tailed_extent, no_view}
use Rattle.law_maps.specs.Freed.{zero_view, zero_view_lem}
use Rattle.law_maps.specs.OpenWords.{core, opened_core, size_core, core_length, core_number, core_height}
use Rattle.law_maps.specs.OpenWords.{core_stack, core_first, core_other, core_top, core_free}

-- view k of the top, of queue q
abbrev pub top_view : ℕ → ℕ → Extent
top_view q k = pick (eqb k USER) (extent nonlocal (local q)) vacant

-- what the words of a new core with n segments mean: the records that are free are zeros
abbrev pub opened_in : ℕ → Meaning
opened_in n = record {
  next = λ s. pick (ltb s 4) none (pick (ltb s 256) (some 0) none);
  contents = λ s. [];
  free = listed (λ k. 4 + k) (n - 4);
  heads = λ q t. pick (both (ltb q 4) (ltb t 128)) (pick (eqb t 0) (some q) (some 0)) none;
  views = λ q k t. pick (both (ltb q 4) (both (ltb k 3) (ltb t 128))) (pick (eqb t 0) (top_view q k) zero_view) vacant;
}

-- a stack by its places from the top
stack_listed : (f g : ℕ → ℕ) (n : ℕ) → ((i : ℕ) → i < n → f (n - 1 - i) ≡ g i) → stack f n ≡ listed g n
unfolding stack listed
stack_listed f g zero h = refl
stack_listed f g (suc n) h =
    ap₂ (λ (x : ℕ) (l : List ℕ). x ∷ l)
    (ap f (let e : n ≡ suc n - 1 - 0 = omega arith in e) ∙ h 0 (omega arith))
    (stack_listed f (λ i. g (suc i)) n (λ i l.
    ap f (let e : n - 1 - i ≡ suc n - 1 - suc i = omega arith in e) ∙ h (suc i) (omega (arith, l))))

-- THE VIEWS OF THE TOP, in words
module _ (q : ℕ) (hq : q < 4) where
  top_queue : load top_views q ≡ q
  unfolding load
  top_queue = by_four (λ p. load top_views p ≡ p) refl refl refl refl q hq

  top_heads : (load top_views (4 + q) ≡ NONE) × (load top_views (8 + q) ≡ NL) × (load top_views (12 + q) ≡ NONE)
  unfolding load
  top_heads =
      by_four (λ p. (load top_views (4 + p) ≡ NONE) × (load top_views (8 + p) ≡ NL) × (load top_views (12 + p) ≡ NONE))
      (refl, refl, refl) (refl, refl, refl) (refl, refl, refl) (refl, refl, refl) q hq

  top_tails : (load top_views (16 + q) ≡ NONE) × (load top_views (20 + q) ≡ q) × (load top_views (24 + q) ≡ NONE)
  unfolding load
  top_tails =
      by_four (λ p. (load top_views (16 + p) ≡ NONE) × (load top_views (20 + p) ≡ p) × (load top_views (24 + p) ≡ NONE))
      (refl, refl, refl) (refl, refl, refl) (refl, refl, refl) (refl, refl, refl) q hq

module _ (l n : ℕ) (hl : 1 ≤ l) (hl' : l ≤ 64) (hn : 4 ≤ n) (hn' : n ≤ 256) (hp : l * n ≤ 8192) where
  abbrev new : List ℕ
  new = core l n hn hn'

  -- THE SEGMENTS
  empty : (s : ℕ) → s < 256 → (read new (first s) ≡ 0) × (read new (count s) ≡ 0)
  empty s h =
      ⊎_elim
      (λ a. let e = core_first l n hn hn' s a in (e.start, e.number))
      (λ a. let e = core_other l n hn hn' s a h in (e.start, e.number))
      (below? s 4)

  next_new : next_in new ≡ (opened_in n).next
  unfolding next_in
  next_new =
      fun_ext λ s. ⊎_elim
      (λ a. halt _ _ (lt-ltb s 256 (omega (arith, a))) ∙ ap optional (core_first l n hn hn' s a).link ∙ optional_none ∙ sym (halt _ _ (lt-ltb s 4 a)))
      (λ a. pick_path (ltb s 256) _ _ none (λ b.
      ap optional (core_other l n hn hn' s a (ltb-true s 256 b)).link ∙ optional_some 0 (λ e. omega (arith, e)))
      ∙ sym (pass _ (le-ltb s 4 a) refl))
      (below? s 4)

  contents_new : contents_in new ≡ (opened_in n).contents
  unfolding contents_in listed
  contents_new =
      fun_ext λ s. ⊎_elim
      (λ h. halt _ _ (lt-ltb s 256 h) ∙ ap (listed (value_at new s)) (empty s h).1)
      (λ h. pass _ (le-ltb s 256 h) refl)
      (below? s 256)

  free_new : free_in new ≡ (opened_in n).free
  unfolding free_in
  free_new =
      ap (stack (λ i. read new (free_segment i))) (core_height l n hn hn')
      ∙ stack_listed (λ i. read new (free_segment i)) (λ k. 4 + k) (n - 4) (λ i h.
      core_stack l n hn hn' (n - 4 - 1 - i) (omega (arith, h)) ∙ (let e : n - 1 - (n - 4 - 1 - i) ≡ 4 + i = omega (arith, h) in e))

  -- THE VIEWS
  heads_new : heads_in new ≡ (opened_in n).heads
  unfolding heads_in
  heads_new =
      fun_ext λ q. fun_ext λ t. pick_path (both (ltb q 4) (ltb t 128)) _ _ none (λ b.
      let w = both_true _ _ b in
      let hq = ltb-true q 4 w.0 in
      ⊎_elim
      (λ e. ap (λ (u : ℕ). optional (read new (queue_head u q))) e
      ∙ ap optional (core_top l n hn hn' q (omega (arith, hq)) ∙ top_queue q hq)
      ∙ optional_some q (λ d. omega (arith, d, hq)) ∙ sym (halt _ _ (eq-eqb t 0 e)))
      (λ d. ap optional (core_free l n hn hn' t (16 + q) d (ltb-true t 128 w.1) (omega (arith, hq)))
      ∙ optional_some 0 (λ e. omega (arith, e)) ∙ sym (pass _ (ne_eqb t 0 d) refl))
      (equal? t 0))

  top_word : (i j w : ℕ) → i < VIEW_WORDS → j ≡ 16 + i → load top_views i ≡ w → read new (task 0 j) ≡ w
  top_word i j w h e f = ap (λ (x : ℕ). read new (task 0 x)) e ∙ core_top l n hn hn' i h ∙ f

  top_kinds : (q : ℕ) → q < 4 → (k : ℕ) → k < 3 → extent_of (view_of new q 0 k) ≡ top_view q k
  unfolding view_of pick
  top_kinds q hq zero h =
      ap₂ (λ (x y : ℕ). extent_of (view x y))
      (top_word (4 + q) (HEADS + q) NONE (omega (arith, hq)) (omega arith) (top_heads q hq).0)
      (top_word (16 + q) (TAILS + q) NONE (omega (arith, hq)) (omega arith) (top_tails q hq).0)
      ∙ no_view
  top_kinds q hq (suc zero) h =
      ap₂ (λ (x y : ℕ). extent_of (view x y))
      (top_word (8 + q) (24 + q) NL (omega (arith, hq)) (omega arith) (top_heads q hq).1)
      (top_word (20 + q) (36 + q) q (omega (arith, hq)) (omega arith) (top_tails q hq).1)
      ∙ tailed_extent NL q (λ e. omega (arith, e, hq))
      ∙ ap₂ extent (end_nonlocal NL refl) (end_local q (λ e. omega (arith, e, hq)))
  top_kinds q hq (suc (suc zero)) h =
      ap₂ (λ (x y : ℕ). extent_of (view x y))
      (top_word (12 + q) (28 + q) NONE (omega (arith, hq)) (omega arith) (top_heads q hq).2)
      (top_word (24 + q) (40 + q) NONE (omega (arith, hq)) (omega arith) (top_tails q hq).2)
      ∙ no_view
  top_kinds q hq (suc (suc (suc k))) h = let z : ⊥ = omega (arith, h) in absurd z

  free_kinds : (q k t : ℕ) → q < 4 → k < 3 → (t ≡ 0 → ⊥) → t < 128 → extent_of (view_of new q t k) ≡ zero_view
  unfolding view_of
  free_kinds q k t hq hk d ht =
      ap₂ (λ (x y : ℕ). extent_of (view x y))
      (core_free l n hn hn' t (20 + k * 4 + q) d ht (omega (arith, hq, hk)))
      (core_free l n hn hn' t (32 + k * 4 + q) d ht (omega (arith, hq, hk)))
      ∙ zero_view_lem

  views_new : view_in new ≡ (opened_in n).views
  unfolding view_in
  views_new =
      fun_ext λ q. fun_ext λ k. fun_ext λ t. pick_path (both (ltb q 4) (both (ltb k 3) (ltb t 128))) _ _ vacant (λ b.
      let w = both_true _ _ b in
      let u = both_true _ _ w.1 in
      let hq = ltb-true q 4 w.0 in
      let hk = ltb-true k 3 u.0 in
      ⊎_elim
      (λ e. ap (λ (x : ℕ). extent_of (view_of new q x k)) e ∙ top_kinds q hq k hk ∙ sym (halt _ _ (eq-eqb t 0 e)))
      (λ d. free_kinds q k t hq hk d (ltb-true t 128 u.1) ∙ sym (pass _ (ne_eqb t 0 d) refl))
      (equal? t 0))

  -- A NEW CORE
  sized_new : Sized new
  sized_new = record {
    words = size_core l n hn hn';
    length_range = λ s. (rw (core_length l n hn hn') hl, rw (core_length l n hn hn') hl');
    number_range = (rw (core_number l n hn hn') hn, rw (core_number l n hn hn') hn');
    product_range = rw (core_length l n hn hn', core_number l n hn hn') hp;
    free_height_lem = let a = core_height l n hn hn' in let b = core_number l n hn hn' in omega (arith, a, b);
    firsts = λ s h.
        let a = core_number l n hn hn' in
        let b = core_length l n hn hn' in
        let c = (empty s (omega (arith, a, h, hn'))).0 in
        omega (arith, b, c, hl);
    counts = λ s h. let a = core_number l n hn hn' in let c = (empty s (omega (arith, a, h, hn'))).1 in omega (arith, c);
  }

  pub core_opened : Means (opened l n) (opened_in n)
  core_opened =
      subst (λ (m : List ℕ). Means m (opened_in n)) (sym (opened_core l n hn hn'))
      (record { sized = sized_new; means = meaning_path (meaning_of new) (opened_in n) next_new contents_new free_new heads_new views_new })

  pub opened_number : read (opened l n) number_word ≡ n
  opened_number = ap (λ (m : List ℕ). read m number_word) (opened_core l n hn hn') ∙ core_number l n hn hn'

-- How often a task stands among the holders, and among the tasks that are entered.
use Rattle.std.specs.Prelude.{◌≡◌, List, [], ◌∷◌, ◌⊎◌, ℕ, zero, suc, ◌+◌, ◌<◌, ◌≤◌}
use Rattle.std.proofs.Math.Path.{refl}
use Rattle.std.proofs.Common.{ap, ◌∙◌, arith, eq-zero-or-pos, lt-ltb, le-ltb, eq-eqb, ne_eqb}
use Rattle.std.proofs.Math.Logic.{inl, inr, ⊎_elim}
use Rattle.spec_words.specs.Words.{pass, halt, true_left, true_right, neither}
use Rattle.spec_lists.specs.Counting.{occurrences, equal?, occurs_nil, occurs_cons, occurs_here, occurs_past, below?}
use Rattle.spec_layout.specs.Layout.{UNFINISHED, STATUS}
use Rattle.spec_tree.specs.Tour.{entered}
use Rattle.spec_rules.specs.Contents.{Contents, word, holders, holders_from}
use Rattle.spec_rules.specs.Rules.{Holder, Child}

-- a mark below 128 meets a task, any other does not
pub entered_here : (x : ℕ) (xs : List ℕ) → x < 128 → entered (x ∷ xs) ≡ x ∷ entered xs
unfolding entered
entered_here x xs h = halt _ _ (lt-ltb x 128 h)

pub entered_past : (x : ℕ) (xs : List ℕ) → 128 ≤ x → entered (x ∷ xs) ≡ entered xs
unfolding entered
entered_past x xs h = pass _ (le-ltb x 128 h) refl

-- the tasks that are entered are the marks below 128
pub entered_count : (xs : List ℕ) (t : ℕ) → t < 128 → occurrences t (entered xs) ≡ occurrences t xs
unfolding entered
entered_count [] t l = refl
entered_count (x ∷ xs) t l =
    let a = entered_count xs t l in
    let b = occurs_cons x t xs in
    ⊎_elim
    (λ h.
    let d = ap (occurrences t) (entered_here x xs h) in
    let f = occurs_cons x t (entered xs) in
    d ∙ (let z : occurrences t (x ∷ entered xs) ≡ occurrences t (x ∷ xs) = omega (arith, a, b, f) in z))
    (λ h.
    let d = ap (occurrences t) (entered_past x xs h) in
    let f = occurs_past x t xs (λ q. omega (arith, q, h, l)) in
    d ∙ (let z : occurrences t (entered xs) ≡ occurrences t (x ∷ xs) = omega (arith, a, f) in z))
    (below? x 128)

pub entered_below : (xs : List ℕ) (t : ℕ) → 128 ≤ t → occurrences t (entered xs) ≡ 0
unfolding entered
entered_below [] t l = occurs_nil t
entered_below (x ∷ xs) t l =
    let a = entered_below xs t l in
    ⊎_elim
    (λ h.
    ap (occurrences t) (entered_here x xs h)
    ∙ occurs_past x t (entered xs) (λ q. omega (arith, q, h, l))
    ∙ a)
    (λ h. ap (occurrences t) (entered_past x xs h) ∙ a)
    (below? x 128)

module _ (c : Contents) where
  abbrev Holds : ℕ → Type 0
  Holds t = (t ≡ 0) ⊎ (word c t STATUS ≡ UNFINISHED)

  holds? : (t : ℕ) → Holds t ⊎ (Holds t → ⊥)
  holds? t =
      ⊎_elim
      (λ q. inl (inl q))
      (λ n. ⊎_elim (λ q. inl (inr q)) (λ m. inr (λ h. ⊎_elim n m h)) (equal? (word c t STATUS) UNFINISHED))
      (equal? t 0)

  from_cons : (n s : ℕ) → Holds s → holders_from c (suc n) s ≡ s ∷ holders_from c n (s + 1)
  unfolding holders_from
  from_cons n s h = halt _ _ (⊎_elim (λ q. true_left _ (eq-eqb _ _ q)) (λ q. true_right _ (eq-eqb _ _ q)) h)

  from_past : (n s : ℕ) → (Holds s → ⊥) → holders_from c (suc n) s ≡ holders_from c n (s + 1)
  unfolding holders_from
  from_past n s h = pass _ (neither (ne_eqb _ _ (λ q. h (inl q))) (ne_eqb _ _ (λ q. h (inr q)))) refl

  from_nil : (s t : ℕ) → occurrences t (holders_from c 0 s) ≡ 0
  unfolding holders_from
  from_nil s t = occurs_nil t

  from_before : (n s t : ℕ) → t < s → occurrences t (holders_from c n s) ≡ 0
  from_before zero s t l = from_nil s t
  from_before (suc n) s t l =
      let a = from_before n (s + 1) t (omega (arith, l)) in
      ⊎_elim
      (λ h. ap (occurrences t) (from_cons n s h) ∙ occurs_past s t (holders_from c n (s + 1)) (λ q. omega (arith, q, l)) ∙ a)
      (λ h. ap (occurrences t) (from_past n s h) ∙ a)
      (holds? s)

  from_held : (n s t : ℕ) → s ≤ t → t < s + n → Holds t → occurrences t (holders_from c n s) ≡ 1
  from_held zero s t a b h = let z : ⊥ = omega (arith, a, b) in absurd z
  from_held (suc n) s t a b h =
      ⊎_elim
      (λ q.
      let d = ap (occurrences t) (from_cons n s (rw q h)) in
      let f = occurs_here s t (holders_from c n (s + 1)) q in
      let g = from_before n (s + 1) t (omega (arith, q)) in
      omega (arith, d, f, g))
      (λ q.
      let g = from_held n (s + 1) t (omega (arith, q, a)) (omega (arith, b)) h in
      ⊎_elim
      (λ w. ap (occurrences t) (from_cons n s w) ∙ occurs_past s t (holders_from c n (s + 1)) q ∙ g)
      (λ w. ap (occurrences t) (from_past n s w) ∙ g)
      (holds? s))
      (equal? s t)

  from_some : (n s t : ℕ) → 0 < occurrences t (holders_from c n s) → (t < s + n) × Holds t
  from_some zero s t p = let a = from_nil s t in let z : ⊥ = omega (arith, a, p) in absurd z
  from_some (suc n) s t p =
      ⊎_elim
      (λ h.
      ⊎_elim
      (λ q. (omega (arith, q), rw q at h))
      (λ q.
      more
      (from_some n (s + 1) t (let a = ap (occurrences t) (from_cons n s h) in let b = occurs_past s t (holders_from c n (s + 1)) q in omega (arith, a, b, p))))
      (equal? s t))
      (λ h. more (from_some n (s + 1) t (let a = ap (occurrences t) (from_past n s h) in omega (arith, a, p))))
      (holds? s)
    where
      more : (t < s + 1 + n) × Holds t → (t < s + suc n) × Holds t
      more w = let l = w.0 in (omega (arith, l), w.1)

  pub holder_below : (t : ℕ) → Holder c t → t < 128
  holder_below t h = ⊎_elim (λ q. omega (arith, q)) (λ w. w.0) h

  pub child_above : (t p : ℕ) → Child c p t → 0 < t
  child_above t p h = ⊎_elim (λ q. absurd (h.0 q)) (λ q. q) (eq-zero-or-pos t)

  pub holder_once : (t : ℕ) → Holder c t → occurrences t (holders c) ≡ 1
  unfolding holders
  holder_once t h = let l = holder_below t h in from_held 128 0 t (omega arith) (omega (arith, l)) (⊎_elim inl (λ w. inr w.1) h)

  pub holders_hold : (t : ℕ) → 0 < occurrences t (holders c) → (t < 128) × Holder c t
  unfolding holders
  holders_hold t p =
      let w = from_some 128 0 t p in
      let l = w.0 in
      let m : t < 128 = omega (arith, l) in
      (m, ⊎_elim inl (λ q. inr (m, q)) w.1)

  pub holder? : (t : ℕ) → Holder c t ⊎ (Holder c t → ⊥)
  holder? t =
      ⊎_elim
      (λ q. inr (λ h. let a = holder_once t h in omega (arith, a, q)))
      (λ p. inl (holders_hold t p).1)
      (eq-zero-or-pos (occurrences t (holders c)))

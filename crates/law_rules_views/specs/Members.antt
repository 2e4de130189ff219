-- What stands in a list that is made by a test for each of its members, and in the local words of a record.
use Rattle.std.specs.Prelude.{◌≡◌, refl, Bool, true, false, List, [], ◌∷◌, ◌⊎◌, ℕ, zero, suc, ◌+◌, ◌<◌, ltb, drop}
use Rattle.std.proofs.Common.{ap, sym, ◌∙◌, inl, inr, ⊎_elim, arith, get_or-drop, ltb-true, lt-ltb}
use Rattle.spec_words.specs.Words.{load, pick, halt}
use Rattle.spec_lists.specs.Counting.{occurrences, equal?, occurs_nil, occurs_cons, occurs_here, occurs_past}
use Rattle.spec_layout.specs.Layout.{NL}
use Rattle.spec_tree.specs.Tour.{entered}
use Rattle.spec_rules.specs.Contents.{locals}

-- x in front of r where b holds
pub picked : (b : Bool) (x s : ℕ) (r : List ℕ) → 0 < occurrences s (pick b (x ∷ r) r) → ((b ≡ true) × (x ≡ s)) ⊎ (0 < occurrences s r)
unfolding pick
picked true x s r p = ⊎_elim (λ e. inl (refl, e)) (λ q. inr (let a = occurs_past x s r q in omega (arith, a, p))) (equal? x s)
picked false x s r p = inr p

pub picked_here : (b : Bool) (x s : ℕ) (r : List ℕ) → b ≡ true → x ≡ s → 0 < occurrences s (pick b (x ∷ r) r)
picked_here b x s r e q = let a = ap (occurrences s) (halt (x ∷ r) r e) in let d = occurs_here x s r q in omega (arith, a, d)

pub picked_past : (b : Bool) (x s : ℕ) (r : List ℕ) → 0 < occurrences s r → 0 < occurrences s (pick b (x ∷ r) r)
unfolding pick
picked_past true x s r p = let a = occurs_cons x s r in omega (arith, a, p)
picked_past false x s r p = p

-- a task entered is a mark
pub entered_mark : (xs : List ℕ) (t : ℕ) → 0 < occurrences t (entered xs) → 0 < occurrences t xs
unfolding entered
entered_mark [] t p = p
entered_mark (x ∷ xs) t p =
    ⊎_elim
    (λ w. let a = occurs_here x t xs w.1 in omega (arith, a))
    (λ q. let a = entered_mark xs t q in let b = occurs_cons x t xs in omega (arith, a, b))
    (picked _ x t (entered xs) p)

pub load_drop : (r : List ℕ) (i j : ℕ) → load (drop i r) j ≡ load r (i + j)
unfolding load
load_drop r i j = get_or-drop i r j 0

-- a word below NL is among the local ones
pub local_in : (n : ℕ) (r : List ℕ) (j : ℕ) → j < n → load r j < NL → 0 < occurrences (load r j) (locals n r)
unfolding locals
local_in zero r j l p = let z : ⊥ = omega arith in absurd z
local_in (suc n) r zero l p = picked_here _ (load r 0) (load r 0) (locals n (drop 1 r)) (lt-ltb _ _ p) refl
local_in (suc n) r (suc j) l p =
    picked_past _ (load r 0) (load r (suc j)) (locals n (drop 1 r))
    (rw later at (local_in n (drop 1 r) j (omega arith) (omega (arith, later, p))))
  where
    later : load (drop 1 r) j ≡ load r (suc j)
    later = load_drop r 1 j ∙ ap (load r) (let z : 1 + j ≡ suc j = omega arith in z)

-- and each of those is one of the words, below NL
pub in_local : (n : ℕ) (r : List ℕ) (s : ℕ) → 0 < occurrences s (locals n r) → (s < NL) × ((j : ℕ) × (j < n) × (load r j ≡ s))
unfolding locals
in_local zero r s p = let a = occurs_nil s in let z : ⊥ = omega (arith, a, p) in absurd z
in_local (suc n) r s p = ⊎_elim here (λ q. past (in_local n (drop 1 r) s q)) (picked _ (load r 0) s (locals n (drop 1 r)) p)
  where
    here : (ltb (load r 0) NL ≡ true) × (load r 0 ≡ s) → (s < NL) × ((j : ℕ) × (j < suc n) × (load r j ≡ s))
    here w = let a = ltb-true (load r 0) NL w.0 in let e = w.1 in (omega (arith, a, e), (0, omega arith, e))

    past : (s < NL) × ((j : ℕ) × (j < n) × (load (drop 1 r) j ≡ s)) → (s < NL) × ((j : ℕ) × (j < suc n) × (load r j ≡ s))
    past w =
        let l = w.1.1 in (
          w.0,
          (
            suc w.1.0,
            omega (arith, l),
            ap (load r) (let z : suc w.1.0 ≡ 1 + w.1.0 = omega arith in z) ∙ sym (load_drop r 1 w.1.0)
                ∙ w.1.2,
          ),
        )

-- The answer of a search as an Option, where the search below n answers n for none.
use Rattle.std.specs.Prelude.{◌≡◌, refl, ℕ, ◌<◌, ◌≤◌, Option, Some as known, None as unknown, ltb}
use Rattle.std.proofs.Common.{sym, ⊎_elim, lt-ltb, le-ltb}
use Rattle.std.proofs.lemmas.Bool.{cases_lt}
use Rattle.spec_words.specs.Words.{pick, pass, halt}

unfoldable pub found : ℕ → ℕ → Option ℕ
found n k = pick (ltb k n) (known k) unknown

pub found_some : (n k : ℕ) → k < n → known k ≡ found n k
unfolding found
found_some n k h = sym (halt _ _ (lt-ltb k n h))

pub found_none : (n k : ℕ) → n ≤ k → unknown ≡ found n k
unfolding found
found_none n k h = sym (pass _ (le-ltb k n h) refl)

-- what an answer says of the number
module _ (n k : ℕ) where
  pub some_found : (x : ℕ) → known x ≡ found n k → (x ≡ k) × (k < n)
  some_found x e = ⊎_elim (λ l. let a = found_some n k l in (cc, l)) (λ g. let a = found_none n k g in absurd (cc)) (cases_lt k n)

  pub none_found : unknown ≡ found n k → n ≤ k
  none_found e = ⊎_elim (λ l. let a = found_some n k l in absurd (cc)) (λ g. g) (cases_lt k n)

-- What the code says of the held segments: how many they are, or that a test has failed.
use Rattle.std.specs.Prelude.{Option, Some as known, None as unknown, is_some as is_known, ◌≡◌, refl, Bool, true, false, ℕ, ◌+◌, length}
use Rattle.std.proofs.Common.{ap, sym, ◌∙◌}
use Rattle.spec_words.specs.Words.{pick, pick_true, pick_false}
use Rattle.spec_rules.specs.Contents.{Contents}
use Rattle.spec_rules.specs.Held.{held_count}

-- r is the number of held segments where the test b passes, and None where it fails. Held and free segments together are
-- those opened.
pub record Counts (c : Contents) (b : Bool) (r : Option ℕ) : Type 0 where
  pub same : r ≡ pick b (known (held_count c)) unknown
  pub together : (h : ℕ) → r ≡ known h → h + length c.free ≡ c.number

pub wrong_counts : (c : Contents) {b : Bool} → b ≡ false → Counts c b unknown
wrong_counts c e =
    record { same = sym (ap (λ (x : Bool). pick x (known (held_count c)) unknown) e ∙ pick_false _ _); together = λ h q. absurd (cc) }

pub right_counts : (c : Contents) {b : Bool} {h : ℕ} → b ≡ true → h ≡ held_count c → h + length c.free ≡ c.number → Counts c b (known h)
right_counts c {h = h} e q t =
    record {
      same = ap known q ∙ sym (ap (λ (x : Bool). pick x (known (held_count c)) unknown) e ∙ pick_true _ _);
      together = λ k r. let e : k ≡ h = cc in ap (λ (x : ℕ). x + length c.free) e ∙ t;
    }

-- what each answer tells
pub held_says : (c : Contents) {b : Bool} {h : ℕ} {r : Option ℕ} → r ≡ known h → Counts c b r
    → (b ≡ true) × (h ≡ held_count c) × (h + length c.free ≡ c.number)
held_says c {b} {h} e k = let g = go b (sym e ∙ k.same) in (g.0, g.1, k.together h e)
  where
    go : (x : Bool) → known h ≡ pick x (known (held_count c)) unknown → (x ≡ true) × (h ≡ held_count c)
    go true q = let z = q ∙ pick_true _ _ in (refl, cc)
    go false q = let z = q ∙ pick_false _ _ in absurd (cc)

pub wrong_says : (c : Contents) {b : Bool} {r : Option ℕ} → r ≡ unknown → Counts c b r → b ≡ false
wrong_says c {b} e k = go b (sym e ∙ k.same)
  where
    go : (x : Bool) → unknown ≡ pick x (known (held_count c)) unknown → x ≡ false
    go true q = let z = q ∙ pick_true _ _ in absurd (cc)
    go false q = refl

pub said : (c : Contents) {b : Bool} {r : Option ℕ} → Counts c b r → is_known r ≡ b
said c {b} k = ap is_known k.same ∙ go b
  where
    go : (x : Bool) → is_known (pick x (known (held_count c)) unknown) ≡ x
    go true = ap is_known (pick_true _ _)
    go false = ap is_known (pick_false _ _)

-- The four views of a kind, by the addresses of their words; what the code finds of all of them at once.
use Rattle.std.specs.Prelude.{◌≡◌, refl, Bool, List, ℕ, ◌+◌, ◌*◌, ◌/◌, ◌%◌, ◌^◌, ◌≤◌, eqb, get_or}
use Rattle.std.proofs.Math.Path.{ap, ap₂, sym}
use Rattle.std.proofs.Common.{◌∙◌, arith}
use Rattle.std.proofs.Math.Bool.{not}
use Rattle.std.specs.Int.Bits.{bit_and}
use Rattle.std.proofs.lemmas.Nat.{and_le_l, and_le_r}
use Rattle.spec_words.specs.Words.{both_on}
use Rattle.spec_layout.specs.Layout.{NONE, RIGHTS, QUEUE_HEADS, HEADS, TAILS}
use Rattle.spec_tree.specs.Rights.{uses, bits}
use Rattle.spec_rules.specs.Contents.{Contents, decode, word, task_rights}
use Rattle.spec_view_events.specs.Events.{Event, queue_of, view_of, queue_at, view_at, queues_at, kind_at}
use Rattle.spec_view_events.specs.Run.{run}
use Rattle.spec_view_events.specs.Parts.{word_at}
use Rattle.spec_view_events.specs.Open.{queue_none, view_none}

-- the four words from address a on are the mark for none
abbrev pub Blank : List ℕ → ℕ → Type 0
Blank m a = (get_or m a 0 ≡ NONE) × (get_or m (a + 1) 0 ≡ NONE) × (get_or m (a + 2) 0 ≡ NONE) × (get_or m (a + 3) 0 ≡ NONE)

full : (a b c d : ℕ) → NONE ≤ bit_and (bit_and (bit_and a b) c) d → (NONE ≤ a) × (NONE ≤ b) × (NONE ≤ c) × (NONE ≤ d)
full a b c d h =
    let p = and_le_l (bit_and (bit_and a b) c) d in
    let q = and_le_r (bit_and (bit_and a b) c) d in
    let r = and_le_l (bit_and a b) c in
    let s = and_le_r (bit_and a b) c in
    let t = and_le_l a b in
    let u = and_le_r a b in
    (omega (arith, h, p, r, t), omega (arith, h, p, r, u), omega (arith, h, p, s), omega (arith, h, q))

-- by the bits that they share
pub full_blank : (m : List ℕ) (a : ℕ) → get_or m a 0 ≤ NONE → get_or m (a + 1) 0 ≤ NONE → get_or m (a + 2) 0 ≤ NONE → get_or m (a + 3) 0 ≤ NONE
    → NONE ≤ bit_and (bit_and (bit_and (get_or m a 0) (get_or m (a + 1) 0)) (get_or m (a + 2) 0)) (get_or m (a + 3) 0) → Blank m a
full_blank m a p q r s h =
    let w = full (get_or m a 0) (get_or m (a + 1) 0) (get_or m (a + 2) 0) (get_or m (a + 3) 0) h in
    let x = w.0 in
    let y = w.1 in
    let z = w.2 in
    let v = w.3 in
    (omega (arith, p, x), omega (arith, q, y), omega (arith, r, z), omega (arith, s, v))

pub both_full : (x y : ℕ) → bit_and x y ≡ NONE → (NONE ≤ x) × (NONE ≤ y)
both_full x y e = let p = and_le_l x y in let q = and_le_r x y in (omega (arith, e, p), omega (arith, e, q))

module _ (m : List ℕ) (t : ℕ) where
  abbrev c : Contents
  c = decode m

  -- the rights to queue q, where r has them in its two low bits
  right_at : (q r : ℕ) → r ≡ get_or m (1473 + t * 48) 0 / 4 ^ q → not (eqb (r % 4) 0) ≡ uses (task_rights c t) q
  unfolding uses bits
  right_at q r e =
      ap (λ (i : ℕ). not (eqb (i % 4) 0)) (e ∙ ap (λ (i : ℕ). i / 4 ^ q) (word_at m t RIGHTS (1473 + t * 48) (omega arith)))

  pub queue_at_lem : (q r a : ℕ) → r ≡ get_or m (1473 + t * 48) 0 / 4 ^ q → a ≡ 1488 + t * 48 + q
      → (es : List Event) → queue_of (not (eqb (r % 4) 0)) q (get_or m a 0) es ≡ queue_at c t q es
  unfolding queue_at
  queue_at_lem q r a e p es = ap₂ (λ (u : Bool) (h : ℕ). queue_of u q h es) (right_at q r e) (word_at m t (QUEUE_HEADS + q) a (omega (arith, p)))

  pub view_at_lem : (k q r a : ℕ) → r ≡ get_or m (1473 + t * 48) 0 / 4 ^ q → a ≡ 1492 + t * 48 + k * 4 + q
      → (es : List Event) → view_of (not (eqb (r % 4) 0)) q (get_or m a 0) (get_or m (a + 12) 0) es ≡ view_at c t k q es
  unfolding view_at
  view_at_lem k q r a e p es =
      ap (λ (u : Bool). view_of u q (get_or m a 0) (get_or m (a + 12) 0) es) (right_at q r e)
      ∙ ap₂ (λ (h x : ℕ). view_of (uses (task_rights c t) q) q h x es)
      (word_at m t (HEADS + k * 4 + q) a (omega (arith, p))) (word_at m t (TAILS + k * 4 + q) (a + 12) (omega (arith, p)))

  module _ (d f w : List ℕ) where
    queue_skip : (q a : ℕ) (es : List Event) → a ≡ 1488 + t * 48 + q → get_or m a 0 ≡ NONE → run c es d f w ≡ run c (queue_at c t q es) d f w
    unfolding queue_at
    queue_skip q a es p e =
        sym (both_on refl)
        ∙ queue_none c es d f w (uses (task_rights c t) q) q (word c t (QUEUE_HEADS + q)) (sym (word_at m t (QUEUE_HEADS + q) a (omega (arith, p))) ∙ e)

    view_skip : (k q a b : ℕ) (es : List Event) → a ≡ 1492 + t * 48 + k * 4 + q → b ≡ a + 12 → get_or m a 0 ≡ NONE → get_or m b 0 ≡ NONE
        → run c es d f w ≡ run c (view_at c t k q es) d f w
    unfolding view_at
    view_skip k q a b es p l e g =
        sym (both_on refl)
        ∙ view_none c es d f w (uses (task_rights c t) q) q (word c t (HEADS + k * 4 + q)) (word c t (TAILS + k * 4 + q)) (
          sym (word_at m t (HEADS + k * 4 + q) a (omega (arith, p))) ∙ e,
          sym (word_at m t (TAILS + k * 4 + q) b (omega (arith, p, l))) ∙ g,
        )

    -- where all of them are empty, the test goes on behind them
    pub queues_skip : (es : List Event) (a : ℕ) → a ≡ 1488 + t * 48 → Blank m a → run c es d f w ≡ run c (queues_at c t es) d f w
    unfolding queues_at
    queues_skip es a p e =
        queue_skip 3 (a + 3) _ (omega (arith, p)) e.3
        ∙ queue_skip 2 (a + 2) _ (omega (arith, p)) e.2
        ∙ queue_skip 1 (a + 1) _ (omega (arith, p)) e.1
        ∙ queue_skip 0 a _ (omega (arith, p)) e.0

    pub kind_skip : (k : ℕ) (es : List Event) (a b : ℕ) → a ≡ 1492 + t * 48 + k * 4 → b ≡ a + 12 → Blank m a → Blank m b
        → run c es d f w ≡ run c (kind_at c t k es) d f w
    unfolding kind_at
    kind_skip k es a b p l e g =
        view_skip k 3 (a + 3) (b + 3) _ (omega (arith, p)) (omega (arith, l)) e.3 g.3
        ∙ view_skip k 2 (a + 2) (b + 2) _ (omega (arith, p)) (omega (arith, l)) e.2 g.2
        ∙ view_skip k 1 (a + 1) (b + 1) _ (omega (arith, p)) (omega (arith, l)) e.1 g.1
        ∙ view_skip k 0 a b _ (omega (arith, p)) l e.0 g.0

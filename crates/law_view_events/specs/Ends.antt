-- What the rules of the events say with one head or one tail more, both ways.
use Rattle.std.specs.Prelude.{◌≡◌, refl, true, ℕ, suc, ◌+◌, ◌%◌, ◌^◌, ◌<◌, ltb, eqb, length}
use Rattle.std.proofs.Math.Path.{ap, sym, subst}
use Rattle.std.proofs.Common.{◌∙◌, arith, length-append}
use mathlib.Core.List.{List, ◌∷◌}
use Rattle.std.proofs.lemmas.Bool.{lt-leb}
use Rattle.spec_words.specs.Words.{load, store, pass, both_true, true_both}
use Rattle.spec_lists.specs.Tests.{each}
use Rattle.spec_lists.specs.Distinct.{fresh}
use Rattle.spec_lists.specs.Marks.{marking}
use Rattle.spec_layout.specs.Layout.{NL}
use Rattle.spec_rules.specs.Contents.{Contents}
use Rattle.spec_rules.specs.Test.{chain, chains}
use Rattle.spec_view_events.specs.Events.{Event}
use Rattle.spec_view_events.specs.Events.Event.{tail, head}
use Rattle.spec_view_events.specs.Run.{filled}
use Rattle.law_view_events.specs.Good.{Good, Chained, Ended, allowed, order_from, owners_of, tails_of, heads_of, last}
use Rattle.law_view_events.specs.Appended.{fresh_append, each_append}

-- sums of words
one_more : (x k : ℕ) → ((x + 1) % 2 ^ 32 + k) % 2 ^ 32 ≡ (x + suc k) % 2 ^ 32
one_more x k = omega arith

some_more : (x j k : ℕ) → ((x + j) % 2 ^ 32 + k) % 2 ^ 32 ≡ (x + (j + k)) % 2 ^ 32
some_more x j k = omega arith

-- the segments of the chain from h
abbrev pub segs : Contents → ℕ → List ℕ
segs c h = chain c c.number h

module _ (c : Contents) (h : ℕ) (hs d : List ℕ) (a : ℕ) where
  many_more : ((a + length (segs c h)) % 2 ^ 32 + length (chains c hs)) % 2 ^ 32 ≡ (a + length (chains c (h ∷ hs))) % 2 ^ 32
  unfolding chains
  many_more =
      some_more a (length (segs c h)) (length (chains c hs)) ∙ ap (λ (k : ℕ). (a + k) % 2 ^ 32) (sym (length-append (segs c h) (chains c hs)))

  add_chain : fresh c.number (segs c h) d ≡ true → each (filled c) (segs c h) ≡ true
      → Chained c hs (marking (segs c h) d) ((a + length (segs c h)) % 2 ^ 32) → Chained c (h ∷ hs) d a
  unfolding chains
  add_chain x y g =
      record {
        placed = fresh_append c.number (segs c h) (chains c hs) d ∙ true_both x g.placed;
        full = each_append (filled c) (segs c h) (chains c hs) ∙ true_both y g.full;
        sum = sym many_more ∙ g.sum;
      }

  off_chain : Chained c (h ∷ hs) d a
      → (fresh c.number (segs c h) d ≡ true) × (each (filled c) (segs c h) ≡ true) × Chained c hs (marking (segs c h) d) ((a + length (segs c h)) % 2 ^ 32)
  unfolding chains
  off_chain g =
      let x = both_true _ _ (sym (fresh_append c.number (segs c h) (chains c hs) d) ∙ g.placed) in
      let y = both_true _ _ (sym (each_append (filled c) (segs c h) (chains c hs)) ∙ g.full) in
      (x.0, y.0, record { placed = x.1; full = y.1; sum = many_more ∙ g.sum })

first_head : (es : List Event) (h : ℕ) → h < NL → heads_of (head h ∷ es) ≡ h ∷ heads_of es
unfolding heads_of
first_head es h local = pass _ (lt-leb NL h local) refl

first_tail : (es : List Event) (t : ℕ) → t < NL → tails_of (tail t ∷ es) ≡ t ∷ tails_of es
unfolding tails_of
first_tail es t local = pass _ (lt-leb NL t local) refl

module _ (c : Contents) (es : List Event) (d f : List ℕ) (o p : ℕ → ℕ) (a b e : ℕ) where
  -- a local head
  module _ (h : ℕ) (local : h < NL) where
    more_heads : ((b + 1) % 2 ^ 32 + length (heads_of es)) % 2 ^ 32 ≡ (b + length (heads_of (head h ∷ es))) % 2 ^ 32
    more_heads = one_more b (length (heads_of es)) ∙ ap (λ (l : List ℕ). (b + length l) % 2 ^ 32) (sym (first_head es h local))

    pub add_head : fresh c.number (segs c h) d ≡ true → each (filled c) (segs c h) ≡ true
        → Good c es (marking (segs c h) d) f o p ((a + length (segs c h)) % 2 ^ 32) ((b + 1) % 2 ^ 32) e → Good c (head h ∷ es) d f o p a b e
    unfolding allowed order_from owners_of tails_of
    add_head x y g =
        record {
          words = g.words;
          ordered = g.ordered;
          owned = g.owned;
          heads = subst (λ (l : List ℕ). Chained c l d a) (sym (first_head es h local)) (add_chain c h (heads_of es) d a x y g.heads);
          tails = g.tails;
          many = sym more_heads ∙ g.many;
        }

    pub off_head : Good c (head h ∷ es) d f o p a b e
        → (fresh c.number (segs c h) d ≡ true) × (each (filled c) (segs c h) ≡ true)
        × Good c es (marking (segs c h) d) f o p ((a + length (segs c h)) % 2 ^ 32) ((b + 1) % 2 ^ 32) e
    unfolding allowed order_from owners_of tails_of
    off_head g =
        let x = off_chain c h (heads_of es) d a (subst (λ (l : List ℕ). Chained c l d a) (first_head es h local) g.heads) in (
          x.0,
          x.1,
          record {
            words = g.words;
            ordered = g.ordered;
            owned = g.owned;
            heads = x.2;
            tails = g.tails;
            many = more_heads ∙ g.many;
          },
        )

  -- a local tail
  module _ (t : ℕ) (local : t < NL) where
    more_tails : ((e + 1) % 2 ^ 32 + length (tails_of es)) % 2 ^ 32 ≡ (e + length (tails_of (tail t ∷ es))) % 2 ^ 32
    more_tails = one_more e (length (tails_of es)) ∙ ap (λ (l : List ℕ). (e + length l) % 2 ^ 32) (sym (first_tail es t local))

    pub add_tail : ltb t c.number ≡ true → eqb (load f t) 0 ≡ true → last c t ≡ true
        → Good c es d (store f t 1) o p a b ((e + 1) % 2 ^ 32) → Good c (tail t ∷ es) d f o p a b e
    unfolding allowed order_from owners_of heads_of fresh each
    add_tail x y z g =
        record {
          words = g.words;
          ordered = g.ordered;
          owned = g.owned;
          heads = g.heads;
          tails =
              subst (λ (l : List ℕ). Ended c l f) (sym (first_tail es t local))
              (record { new = true_both x (true_both y g.tails.new); lasts = true_both z g.tails.lasts });
          many = g.many ∙ more_tails;
        }

    pub off_tail : Good c (tail t ∷ es) d f o p a b e
        → (ltb t c.number ≡ true) × (eqb (load f t) 0 ≡ true) × (last c t ≡ true) × Good c es d (store f t 1) o p a b ((e + 1) % 2 ^ 32)
    unfolding allowed order_from owners_of heads_of fresh each
    off_tail g =
        let k = subst (λ (l : List ℕ). Ended c l f) (first_tail es t local) g.tails in
        let x = both_true _ _ k.new in
        let y = both_true _ _ x.1 in
        let z = both_true _ _ k.lasts in (
          x.0,
          y.0,
          z.0,
          record {
            words = g.words;
            ordered = g.ordered;
            owned = g.owned;
            heads = g.heads;
            tails = record { new = y.1; lasts = z.1 };
            many = g.many ∙ sym more_tails;
          },
        )

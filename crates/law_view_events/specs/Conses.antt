-- What the rules of the events say with one event more, both ways.
use Rattle.std.specs.Prelude.{◌≡◌, Bool, List, ◌∷◌, ℕ, ◌+◌, ◌%◌, ◌^◌, ◌<◌, ◌≤◌, eqb, length}
use Rattle.std.proofs.Math.Path.{refl, ap, sym}
use Rattle.std.proofs.Common.{◌∙◌, subst}
use Rattle.std.proofs.Math.Bool.{true, false, not}
use Rattle.std.proofs.Math.Logic.{⊎_elim}
use native.Mathlib.Omega.{arith}
use borrow.Author.Tests.{le-leb, eq-eqb, ne_eqb, not-true, eqb-false}
use Rattle.spec_words.specs.Words.{pick, both, either, pass, halt, both_true, true_both, both_on, both_off, pick_true, pick_false}
use Rattle.spec_lists.specs.Counting.{one, equal?}
use Rattle.spec_layout.specs.Layout.{NONE, NL}
use Rattle.spec_rules.specs.Contents.{Contents}
use Rattle.spec_rules.specs.Test.{passed}
use Rattle.spec_rules.specs.Passed.{passed_none}
use Rattle.spec_view_events.specs.Events.{Event}
use Rattle.spec_view_events.specs.Events.Event.{entry, owner, order, tail, head}
use Rattle.law_view_events.specs.Good.{Good, Chained, Ended, allowed, turned, order_from, owners_of, tails_of, heads_of}

-- lists of events of which all rules see the same
pub record Same (es vs : List Event) : Type 0 where
  pub words : allowed es ≡ allowed vs
  pub order : (q o : ℕ) → order_from q es o ≡ order_from q vs o
  pub owners : (q : ℕ) → owners_of q es ≡ owners_of q vs
  pub tails : tails_of es ≡ tails_of vs
  pub heads : heads_of es ≡ heads_of vs

pub same_back : {es vs : List Event} → Same es vs → Same vs es
same_back s =
    record {
      words = sym s.words;
      order = λ q o. sym (s.order q o);
      owners = λ q. sym (s.owners q);
      tails = sym s.tails;
      heads = sym s.heads;
    }

-- events in which there is nothing
module _ (es : List Event) where
  pub no_owner : (q x : ℕ) → x ≡ NONE → Same es (owner q x ∷ es)
  unfolding allowed order_from owners_of tails_of heads_of one
  no_owner q x none =
      record {
        words = sym (both_on (ap not (ne_eqb x NL (λ z. omega (arith, z, none)))));
        order = λ i o. refl;
        owners = λ i. sym (ap (λ (k : ℕ). k + owners_of i es) (pass 1 (off (eqb q i)) refl) ∙ (let z : 0 + owners_of i es ≡ owners_of i es = omega arith in z));
        tails = refl;
        heads = refl;
      }
    where
      off : (y : Bool) → both y (not (eqb x NONE)) ≡ false
      off true = both_on refl ∙ ap not (eq-eqb _ _ none)
      off false = both_off _ refl

  pub no_order : (u : Bool) (q h t : ℕ) → h ≡ NONE → t ≡ NONE → Same es (order u q h t ∷ es)
  unfolding allowed order_from owners_of tails_of heads_of
  no_order u q h t x y =
      record {
        words = refl;
        order = λ i o. ap (order_from i es) (sym (flat (eqb q i) (pick u (passed h t o) o) o (flat u (passed h t o) o (passed_none h t o x y))));
        owners = λ i. refl;
        tails = refl;
        heads = refl;
      }
    where
      flat : (y : Bool) (k o : ℕ) → k ≡ o → pick y k o ≡ o
      flat true k o z = pick_true k o ∙ z
      flat false k o z = pick_false k o

  pub no_tail : (t : ℕ) → NL ≤ t → Same es (tail t ∷ es)
  unfolding allowed order_from owners_of tails_of heads_of
  no_tail t l =
      record {
        words = refl;
        order = λ i o. refl;
        owners = λ i. refl;
        tails = sym (halt _ _ (le-leb NL t l));
        heads = refl;
      }

  pub no_head : (h : ℕ) → NL ≤ h → Same es (head h ∷ es)
  unfolding allowed order_from owners_of tails_of heads_of
  no_head h l =
      record {
        words = refl;
        order = λ i o. refl;
        owners = λ i. refl;
        tails = refl;
        heads = sym (halt _ _ (le-leb NL h l));
      }

-- the queue views seen, with one of queue q
abbrev pub entered_at : (ℕ → ℕ) → ℕ → ℕ → ℕ
entered_at p q i = pick (eqb q i) 1 (p i)

counted : (es : List Event) (q x i : ℕ) → (x ≡ NONE → ⊥) → owners_of i (owner q x ∷ es) ≡ one (eqb q i) + owners_of i es
unfolding owners_of
counted es q x i some = ap (λ (k : Bool). one k + owners_of i es) (go (eqb q i))
  where
    go : (y : Bool) → both y (not (eqb x NONE)) ≡ y
    go true = both_on refl ∙ ap not (ne_eqb _ _ some)
    go false = both_off _ refl

here : (p : ℕ → ℕ) (q i : ℕ) → q ≡ i → (entered_at p q i ≡ 1) × (one (eqb q i) ≡ 1)
unfolding one
here p q i z = (halt _ _ (eq-eqb _ _ z), halt _ _ (eq-eqb _ _ z))

past : (p : ℕ → ℕ) (q i : ℕ) → (q ≡ i → ⊥) → (entered_at p q i ≡ p i) × (one (eqb q i) ≡ 0)
unfolding one
past p q i z = (pass _ (ne_eqb _ _ z) refl, pass _ (ne_eqb _ _ z) refl)

module _ {c : Contents} {es : List Event} {d f : List ℕ} {o p : ℕ → ℕ} {a b e : ℕ} where
  pub same_good : {vs : List Event} → Same es vs → Good c es d f o p a b e → Good c vs d f o p a b e
  same_good s g =
      record {
        words = sym s.words ∙ g.words;
        ordered = λ q l. sym (s.order q (o q)) ∙ g.ordered q l;
        owned = λ q l. ap (λ (k : ℕ). p q + k) (sym (s.owners q)) ∙ g.owned q l;
        heads = subst (λ (l : List ℕ). Chained c l d a) s.heads g.heads;
        tails = subst (λ (l : List ℕ). Ended c l f) s.tails g.tails;
        many =
            ap (λ (l : List ℕ). (b + length l) % 2 ^ 32) (sym s.heads)
            ∙ g.many
            ∙ ap (λ (l : List ℕ). (e + length l) % 2 ^ 32) s.tails;
      }

  -- a word
  module _ (u : Bool) (x : ℕ) where
    pub add_entry : either (eqb x NONE) u ≡ true → Good c es d f o p a b e → Good c (entry u x ∷ es) d f o p a b e
    unfolding allowed order_from owners_of tails_of heads_of
    add_entry h g =
        record {
          words = true_both h g.words;
          ordered = g.ordered;
          owned = g.owned;
          heads = g.heads;
          tails = g.tails;
          many = g.many;
        }

    pub off_entry : Good c (entry u x ∷ es) d f o p a b e → (either (eqb x NONE) u ≡ true) × Good c es d f o p a b e
    unfolding allowed order_from owners_of tails_of heads_of
    off_entry g =
        let w = both_true _ _ g.words in (
          w.0,
          record {
            words = w.1;
            ordered = g.ordered;
            owned = g.owned;
            heads = g.heads;
            tails = g.tails;
            many = g.many;
          },
        )

  -- the head of a queue view of queue q, where none was seen before
  module _ (q x : ℕ) (low : q < 4) (some : x ≡ NONE → ⊥) where
    pub add_owner : (x ≡ NL → ⊥) → p q ≡ 0 → Good c es d f o (entered_at p q) a b e → Good c (owner q x ∷ es) d f o p a b e
    unfolding allowed order_from tails_of heads_of
    add_owner local new g =
        record {
          words = true_both (ap not (ne_eqb _ _ local)) g.words;
          ordered = g.ordered;
          owned = λ i l. ⊎_elim
              (λ z.
              let k = g.owned i l in
              let v = here p q i z in let y = v.0 in let j = v.1 in let n = counted es q x i some in let m = ap p z in omega (arith, k, y, j, n, m, new))
              (λ z. let k = g.owned i l in let v = past p q i z in let y = v.0 in let j = v.1 in let n = counted es q x i some in omega (arith, k, y, j, n))
              (equal? q i);
          heads = g.heads;
          tails = g.tails;
          many = g.many;
        }

    pub off_owner : Good c (owner q x ∷ es) d f o p a b e → (x ≡ NL → ⊥) × (p q ≡ 0) × Good c es d f o (entered_at p q) a b e
    unfolding allowed order_from tails_of heads_of
    off_owner g =
        let w = both_true _ _ g.words in (
          eqb-false _ _ (not-true _ w.0),
          (let k = g.owned q low in let v = here p q q refl in let j = v.1 in let n = counted es q x q some in omega (arith, k, j, n)),
          record {
            words = w.1;
            ordered = g.ordered;
            owned = λ i l. ⊎_elim
                (λ z.
                let k = g.owned i l in let v = here p q i z in let y = v.0 in let j = v.1 in let n = counted es q x i some in omega (arith, k, y, j, n))
                (λ z.
                let k = g.owned i l in let v = past p q i z in let y = v.0 in let j = v.1 in let n = counted es q x i some in omega (arith, k, y, j, n))
                (equal? q i);
            heads = g.heads;
            tails = g.tails;
            many = g.many;
          },
        )

  -- a view of queue q
  module _ (u : Bool) (q h t : ℕ) where
    pub add_order : Good c es d f (λ i. turned i u q h t (o i)) p a b e → Good c (order u q h t ∷ es) d f o p a b e
    unfolding allowed order_from owners_of tails_of heads_of
    add_order g =
        record {
          words = g.words;
          ordered = g.ordered;
          owned = g.owned;
          heads = g.heads;
          tails = g.tails;
          many = g.many;
        }

    pub off_order : Good c (order u q h t ∷ es) d f o p a b e → Good c es d f (λ i. turned i u q h t (o i)) p a b e
    unfolding allowed order_from owners_of tails_of heads_of
    off_order g =
        record {
          words = g.words;
          ordered = g.ordered;
          owned = g.owned;
          heads = g.heads;
          tails = g.tails;
          many = g.many;
        }

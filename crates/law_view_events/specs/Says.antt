-- THE TEST OVER EVENTS says exactly the rules of the events.
use Rattle.std.specs.Prelude.{◌≡◌, true, ℕ, ◌+◌, ◌<◌, ◌≤◌, leb, eqb, length}
use Rattle.std.proofs.Math.Path.{refl, ap, sym}
use Rattle.std.proofs.Common.{◌∙◌}
use Rattle.std.proofs.Math.Bool.{not}
use mathlib.Core.List.{List, [], ◌∷◌}
use Rattle.std.proofs.Math.Logic.{⊎_elim}
use native.Mathlib.Omega.{arith}
use borrow.Author.Tests.{leb-true, leb-false, eq-eqb, ne_eqb, eqb-true, eqb-false, not-true}
use Rattle.spec_words.specs.Words.{load, store, both, pass, halt, both_true, true_both}
use Rattle.spec_lists.specs.Counting.{equal?}
use Rattle.spec_lists.specs.Tests.{each}
use Rattle.spec_lists.specs.Distinct.{fresh}
use Rattle.spec_lists.specs.Marks.{marking}
use Rattle.spec_layout.specs.Layout.{NONE, NL}
use Rattle.spec_rules.specs.Contents.{Contents}
use Rattle.spec_rules.specs.Test.{chains}
use Rattle.law_rules_views.specs.Marks.{yes_no}
use Rattle.spec_view_events.specs.Events.{Event}
use Rattle.spec_view_events.specs.Events.Event.{entry, owner, order, tail, head}
use Rattle.spec_view_events.specs.Run.{ORDERS, SEEN, PLACED, HEADS, TAILS, four_ones, whole, run, raised}
use Rattle.law_view_events.specs.Good.{Good, Queued, allowed, order_from, owners_of, tails_of, heads_of}
use Rattle.law_view_events.specs.State.{Reads, reads_order, reads_owner, reads_tail, reads_head}
use Rattle.law_view_events.specs.Conses.{same_good, same_back, no_owner, no_order, no_tail, no_head, add_entry, off_entry, add_owner, off_owner, add_order}
use Rattle.law_view_events.specs.Conses.{off_order}
use Rattle.law_view_events.specs.Ends.{segs, add_head, off_head, add_tail, off_tail}

-- the end: four words of the state
ones_says : (w : List ℕ) (k : ℕ) → four_ones w k ≡ true → (q : ℕ) → q < 4 → load w (k + q) ≡ 1
unfolding four_ones
ones_says w k e q l =
    let x = both_true _ _ e in
    let y = both_true _ _ x.1 in
    let z = both_true _ _ y.1 in
    ⊎_elim (λ i. ap (load w) (let j : k + q ≡ k = omega (arith, i) in j) ∙ eqb-true _ _ x.0)
    (λ n0. ⊎_elim (λ i. ap (λ (j : ℕ). load w (k + j)) i ∙ eqb-true _ _ y.0)
    (λ n1. ⊎_elim (λ i. ap (λ (j : ℕ). load w (k + j)) i ∙ eqb-true _ _ z.0)
    (λ n2. ap (λ (j : ℕ). load w (k + j)) (let j : q ≡ 3 = omega (arith, l, n0, n1, n2) in j) ∙ eqb-true _ _ z.1)
    (equal? q 2)) (equal? q 1)) (equal? q 0)

says_ones : (w : List ℕ) (k : ℕ) → ((q : ℕ) → q < 4 → load w (k + q) ≡ 1) → four_ones w k ≡ true
unfolding four_ones
says_ones w k f =
    true_both (eq-eqb _ _ (ap (load w) (let j : k ≡ k + 0 = omega arith in j) ∙ f 0 (omega arith)))
    (true_both (eq-eqb _ _ (f 1 (omega arith))) (true_both (eq-eqb _ _ (f 2 (omega arith))) (eq-eqb _ _ (f 3 (omega arith)))))

module _ (c : Contents) (small : c.number ≤ 256) where
  module _ (d f w : List ℕ) {o p : ℕ → ℕ} {a b e : ℕ} (r : Reads w o p a b e) where
    end_says : whole c w ≡ true → Good c [] d f o p a b e
    unfolding whole allowed order_from owners_of tails_of heads_of chains fresh each
    end_says t =
        let x = both_true _ _ t in
        let y = both_true _ _ x.1 in
        let z = both_true _ _ y.1 in
        let i = sym r.placed ∙ eqb-true _ _ z.0 in
        let j = sym r.heads ∙ eqb-true _ _ z.1 ∙ r.tails in
        record {
          words = refl;
          ordered = λ q l. sym (r.order q l) ∙ ap (load w) (let k : q ≡ 0 + q = omega arith in k) ∙ ones_says w ORDERS x.0 q l;
          owned = λ q l. let k = sym (r.owner q l) ∙ ones_says w SEEN y.0 q l in omega (arith, k);
          heads = record { placed = refl; full = refl; sum = omega (arith, i, small) };
          tails = record { new = refl; lasts = refl };
          many = omega (arith, j);
        }

    says_end : Good c [] d f o p a b e → whole c w ≡ true
    unfolding whole allowed order_from owners_of tails_of heads_of chains
    says_end g =
        true_both (says_ones w ORDERS (λ q l. ap (load w) (let k : 0 + q ≡ q = omega arith in k) ∙ r.order q l ∙ g.ordered q l))
        (true_both (says_ones w SEEN (λ q l. r.owner q l ∙ (let k = g.owned q l in omega (arith, k))))
        (true_both (eq-eqb _ _ (r.placed ∙ (let k = g.heads.sum in let i = r.placed_fits in omega (arith, k, i))))
        (eq-eqb _ _ (r.heads ∙ (let k = g.many in let i = r.heads_fits in let j = r.tails_fits in omega (arith, k, i, j)) ∙ sym r.tails))))

  pub run_says : (es : List Event) (d f w : List ℕ) {o p : ℕ → ℕ} {a b e : ℕ} → Queued es → Reads w o p a b e → run c es d f w ≡ true → Good c es d f o p a b e
  unfolding run
  run_says [] d f w q r t = end_says d f w r t
  run_says (entry u x ∷ es) d f w q r t = let k = both_true _ _ t in add_entry u x k.0 (run_says es d f w q r k.1)
  run_says (owner i x ∷ es) d f w q r t =
      ⊎_elim
      (λ z. same_good (no_owner es i x z) (run_says es d f w q.1 r (sym (halt _ _ (eq-eqb _ _ z)) ∙ t)))
      (λ z.
      let k = both_true _ _ (sym (pass _ (ne_eqb _ _ z) refl) ∙ t) in
      let m = both_true _ _ k.1 in
      add_owner i x q.0 z (eqb-false _ _ (not-true _ k.0)) (sym (r.owner i q.0) ∙ eqb-true _ _ m.0)
      (run_says es d f (store w (SEEN + i) 1) q.1 (reads_owner r i q.0) m.1))
      (equal? x NONE)
  run_says (order u i h x ∷ es) d f w q r t =
      ⊎_elim
      (λ z.
      let k = both_true _ _ z in
      same_good (no_order es u i h x (eqb-true _ _ k.0) (eqb-true _ _ k.1)) (run_says es d f w q.1 r (sym (halt _ _ z) ∙ t)))
      (λ z. add_order u i h x (run_says es d f _ q.1 (reads_order r u i h x q.0) (sym (pass _ z refl) ∙ t)))
      (yes_no (both (eqb h NONE) (eqb x NONE)))
  run_says (tail x ∷ es) d f w {o} {p} {a} {b} {e} q r t =
      ⊎_elim
      (λ z. same_good (no_tail es x (leb-true _ _ z)) (run_says es d f w q r (sym (halt _ _ z) ∙ t)))
      (λ z.
      let k = both_true _ _ (sym (pass _ z refl) ∙ t) in
      let m = both_true _ _ k.1 in
      let n = both_true _ _ m.1 in
      add_tail c es d f o p a b e x (leb-false _ _ z) k.0 m.0 n.0 (run_says es d (store f x 1) (raised w TAILS 1) q (reads_tail r) n.1))
      (yes_no (leb NL x))
  run_says (head x ∷ es) d f w {o} {p} {a} {b} {e} q r t =
      ⊎_elim
      (λ z. same_good (no_head es x (leb-true _ _ z)) (run_says es d f w q r (sym (halt _ _ z) ∙ t)))
      (λ z.
      let k = both_true _ _ (sym (pass _ z refl) ∙ t) in
      let m = both_true _ _ k.1 in
      add_head c es d f o p a b e x (leb-false _ _ z) k.0 m.0
      (run_says es (marking (segs c x) d) f (raised (raised w PLACED (length (segs c x))) HEADS 1) q (reads_head r (length (segs c x))) m.1))
      (yes_no (leb NL x))

  pub says_run : (es : List Event) (d f w : List ℕ) {o p : ℕ → ℕ} {a b e : ℕ} → Queued es → Reads w o p a b e → Good c es d f o p a b e → run c es d f w ≡ true
  unfolding run
  says_run [] d f w q r g = says_end d f w r g
  says_run (entry u x ∷ es) d f w q r g = let k = off_entry u x g in true_both k.0 (says_run es d f w q r k.1)
  says_run (owner i x ∷ es) d f w q r g =
      ⊎_elim
      (λ z. halt _ _ (eq-eqb _ _ z) ∙ says_run es d f w q.1 r (same_good (same_back (no_owner es i x z)) g))
      (λ z.
      let k = off_owner i x q.0 z g in
      pass _ (ne_eqb _ _ z)
      (true_both (ap not (ne_eqb _ _ k.0))
      (true_both (eq-eqb _ _ (r.owner i q.0 ∙ k.1)) (says_run es d f (store w (SEEN + i) 1) q.1 (reads_owner r i q.0) k.2))))
      (equal? x NONE)
  says_run (order u i h x ∷ es) d f w q r g =
      ⊎_elim
      (λ z.
      let k = both_true _ _ z in
      halt _ _ z ∙ says_run es d f w q.1 r (same_good (same_back (no_order es u i h x (eqb-true _ _ k.0) (eqb-true _ _ k.1))) g))
      (λ z. pass _ z (says_run es d f _ q.1 (reads_order r u i h x q.0) (off_order u i h x g)))
      (yes_no (both (eqb h NONE) (eqb x NONE)))
  says_run (tail x ∷ es) d f w {o} {p} {a} {b} {e} q r g =
      ⊎_elim
      (λ z. halt _ _ z ∙ says_run es d f w q r (same_good (same_back (no_tail es x (leb-true _ _ z))) g))
      (λ z.
      let k = off_tail c es d f o p a b e x (leb-false _ _ z) g in
      pass _ z (true_both k.0 (true_both k.1 (true_both k.2 (says_run es d (store f x 1) (raised w TAILS 1) q (reads_tail r) k.3)))))
      (yes_no (leb NL x))
  says_run (head x ∷ es) d f w {o} {p} {a} {b} {e} q r g =
      ⊎_elim
      (λ z. halt _ _ z ∙ says_run es d f w q r (same_good (same_back (no_head es x (leb-true _ _ z))) g))
      (λ z.
      let k = off_head c es d f o p a b e x (leb-false _ _ z) g in
      pass _ z (true_both k.0 (true_both k.1
      (says_run es (marking (segs c x) d) f (raised (raised w PLACED (length (segs c x))) HEADS 1) q (reads_head r (length (segs c x))) k.2))))
      (yes_no (leb NL x))

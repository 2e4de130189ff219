-- What the words of the state are, and what they are after an event.
use Rattle.std.specs.Prelude.{◌≡◌, refl, Bool, List, ℕ, ◌+◌, ◌%◌, ◌^◌, ◌<◌, eqb}
use Rattle.std.proofs.Common.{ap, sym, ◌∙◌, ⊎_elim, arith, eq-eqb, ne_eqb}
use Rattle.spec_words.specs.Words.{load, store, size, pick, pass, halt, size_store, load_same, load_other}
use Rattle.spec_lists.specs.Counting.{equal?}
use Rattle.spec_rules.specs.Test.{passed}
use Rattle.spec_view_events.specs.Run.{SEEN, PLACED, HEADS, TAILS, raised}
use Rattle.law_view_events.specs.Good.{turned}

pub record Reads (w : List ℕ) (o p : ℕ → ℕ) (a b e : ℕ) : Type 0 where
  pub room : size w ≡ 12
  pub order : (q : ℕ) → q < 4 → load w q ≡ o q
  pub owner : (q : ℕ) → q < 4 → load w (SEEN + q) ≡ p q
  pub placed : load w PLACED ≡ a
  pub heads : load w HEADS ≡ b
  pub tails : load w TAILS ≡ e
  pub placed_fits : a < 2 ^ 32
  pub heads_fits : b < 2 ^ 32
  pub tails_fits : e < 2 ^ 32

load_store : (w : List ℕ) (k v j : ℕ) → k < size w → load (store w k v) j ≡ pick (eqb k j) v (load w j)
load_store w k v j l =
    ⊎_elim
    (λ e. ap (load (store w k v)) (sym e) ∙ load_same w k v l ∙ sym (halt _ _ (eq-eqb _ _ e)))
    (λ e. load_other w k j v (λ q. e (sym q)) ∙ sym (pass _ (ne_eqb _ _ e) refl))
    (equal? k j)

raised_same : (w : List ℕ) (k v : ℕ) → k < size w → load (raised w k v) k ≡ (load w k + v) % 2 ^ 32
unfolding raised
raised_same w k v l = load_same w k _ l

raised_other : (w : List ℕ) (k v j : ℕ) → (j ≡ k → ⊥) → load (raised w k v) j ≡ load w j
unfolding raised
raised_other w k v j q = load_other w k j _ q

raised_size : (w : List ℕ) (k v : ℕ) → size (raised w k v) ≡ size w
unfolding raised
raised_size w k v = size_store w k _

low : (x : ℕ) → x % 2 ^ 32 < 2 ^ 32
low x = omega arith

module _ {w : List ℕ} {o p : ℕ → ℕ} {a b e : ℕ} (r : Reads w o p a b e) where
  -- a view of queue q
  pub reads_order : (u : Bool) (q h t : ℕ) → q < 4
      → Reads (store w q (pick u (passed h t (load w q)) (load w q))) (λ i. turned i u q h t (o i)) p a b e
  reads_order u q h t l =
      let s = r.room in
      record {
        room = size_store w q _ ∙ s;
        order = λ i m. load_store w q _ i (omega (arith, s, l)) ∙ ⊎_elim (same i m) (other i m) (equal? q i);
        owner = λ i m. load_other w q (SEEN + i) _ (λ z. omega (arith, z, l)) ∙ r.owner i m;
        placed = load_other w q PLACED _ (λ z. omega (arith, z, l)) ∙ r.placed;
        heads = load_other w q HEADS _ (λ z. omega (arith, z, l)) ∙ r.heads;
        tails = load_other w q TAILS _ (λ z. omega (arith, z, l)) ∙ r.tails;
        placed_fits = r.placed_fits;
        heads_fits = r.heads_fits;
        tails_fits = r.tails_fits;
      }
    where
      same : (i : ℕ) → i < 4 → q ≡ i → pick (eqb q i) (pick u (passed h t (load w q)) (load w q)) (load w i) ≡ turned i u q h t (o i)
      same i m z =
          halt _ _ (eq-eqb _ _ z)
          ∙ ap (λ (x : ℕ). pick u (passed h t x) x) (ap (load w) z ∙ r.order i m)
          ∙ sym (halt _ _ (eq-eqb _ _ z))

      other : (i : ℕ) → i < 4 → (q ≡ i → ⊥) → pick (eqb q i) (pick u (passed h t (load w q)) (load w q)) (load w i) ≡ turned i u q h t (o i)
      other i m z = pass _ (ne_eqb _ _ z) (r.order i m) ∙ sym (pass _ (ne_eqb _ _ z) refl)

  -- a queue view of queue q
  pub reads_owner : (q : ℕ) → q < 4 → Reads (store w (SEEN + q) 1) o (λ i. pick (eqb q i) 1 (p i)) a b e
  reads_owner q l =
      let s = r.room in
      record {
        room = size_store w (SEEN + q) 1 ∙ s;
        order = λ i m. load_other w (SEEN + q) i 1 (λ z. omega (arith, z, m)) ∙ r.order i m;
        owner = λ i m. load_store w (SEEN + q) 1 (SEEN + i) (omega (arith, s, l)) ∙ ⊎_elim (same i) (other i m) (equal? q i);
        placed = load_other w (SEEN + q) PLACED 1 (λ z. omega (arith, z, l)) ∙ r.placed;
        heads = load_other w (SEEN + q) HEADS 1 (λ z. omega (arith, z, l)) ∙ r.heads;
        tails = load_other w (SEEN + q) TAILS 1 (λ z. omega (arith, z, l)) ∙ r.tails;
        placed_fits = r.placed_fits;
        heads_fits = r.heads_fits;
        tails_fits = r.tails_fits;
      }
    where
      same : (i : ℕ) → q ≡ i → pick (eqb (SEEN + q) (SEEN + i)) 1 (load w (SEEN + i)) ≡ pick (eqb q i) 1 (p i)
      same i z = halt _ _ (eq-eqb _ _ (ap (λ (x : ℕ). 4 + x) z)) ∙ sym (halt _ _ (eq-eqb _ _ z))

      other : (i : ℕ) → i < 4 → (q ≡ i → ⊥) → pick (eqb (SEEN + q) (SEEN + i)) 1 (load w (SEEN + i)) ≡ pick (eqb q i) 1 (p i)
      other i m z = pass _ (ne_eqb (SEEN + q) (SEEN + i) (λ x. z (omega (arith, x)))) (r.owner i m) ∙ sym (pass _ (ne_eqb _ _ z) refl)

  -- a local tail
  pub reads_tail : Reads (raised w TAILS 1) o p a b ((e + 1) % 2 ^ 32)
  reads_tail =
      let s = r.room in
      record {
        room = raised_size w TAILS 1 ∙ s;
        order = λ i m. raised_other w TAILS 1 i (λ z. omega (arith, z, m)) ∙ r.order i m;
        owner = λ i m. raised_other w TAILS 1 (SEEN + i) (λ z. omega (arith, z, m)) ∙ r.owner i m;
        placed = raised_other w TAILS 1 PLACED (λ z. omega (arith, z)) ∙ r.placed;
        heads = raised_other w TAILS 1 HEADS (λ z. omega (arith, z)) ∙ r.heads;
        tails = raised_same w TAILS 1 (omega (arith, s)) ∙ ap (λ (x : ℕ). (x + 1) % 2 ^ 32) r.tails;
        placed_fits = r.placed_fits;
        heads_fits = r.heads_fits;
        tails_fits = low (e + 1);
      }

  -- a local head, whose chain has k segments
  pub reads_head : (k : ℕ) → Reads (raised (raised w PLACED k) HEADS 1) o p ((a + k) % 2 ^ 32) ((b + 1) % 2 ^ 32) e
  reads_head k =
      let s = r.room in
      let s' = raised_size w PLACED k in
      record {
        room = raised_size _ HEADS 1 ∙ raised_size w PLACED k ∙ s;
        order = λ i m. raised_other _ HEADS 1 i (λ z. omega (arith, z, m)) ∙ raised_other w PLACED k i (λ z. omega (arith, z, m)) ∙ r.order i m;
        owner = λ i m. raised_other _ HEADS 1 (SEEN + i) (λ z. omega (arith, z, m)) ∙ raised_other w PLACED k (SEEN + i) (λ z. omega (arith, z, m)) ∙ r.owner i m;
        placed = raised_other _ HEADS 1 PLACED (λ z. omega (arith, z)) ∙ raised_same w PLACED k (omega (arith, s)) ∙ ap (λ (x : ℕ). (x + k) % 2 ^ 32) r.placed;
        heads = raised_same _ HEADS 1 (omega (arith, s, s')) ∙ ap (λ (x : ℕ). (x + 1) % 2 ^ 32) (raised_other w PLACED k HEADS (λ z. omega (arith, z)) ∙ r.heads);
        tails = raised_other _ HEADS 1 TAILS (λ z. omega (arith, z)) ∙ raised_other w PLACED k TAILS (λ z. omega (arith, z)) ∙ r.tails;
        placed_fits = low (a + k);
        heads_fits = low (b + 1);
        tails_fits = r.tails_fits;
      }

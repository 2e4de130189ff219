-- The child's record, four words at a time. No store reaches a word that is read later.
use mathlib.Core.Path.{◌≡◌, refl, ap, sym, ◌∙◌}
use mathlib.Core.Bool.{Bool}
use mathlib.Core.List.{List, [], ◌∷◌, ◌++◌}
use mathlib.Core.Logic.{◌⊎◌, inl, inr}
use Prim.Native.Nat.{ℕ, ◌+◌, ◌*◌, ◌<◌, ◌≤◌}
use native.Mathlib.Omega.{arith}
use lib.ListN.{length}
use borrow.Author.Tests.{eq-eqb, ne_eqb}
use Rattle.spec_words.specs.Words.{pick, halt, pass}
use Rattle.spec_words.specs.Blocks.{store_all, store_append, block_other}
use Rattle.spec_layout.specs.Layout.{NONE, UNFINISHED, USER, YOUNGER, YOUNGEST, task, head, tail, queue_head, address, read, write}
use Rattle.spec_tree.specs.Rights.{pops, uses}
use Rattle.spec_outcomes.specs.Spawn.{for_queues, passed_user, passed_queue, kept_user, kept_queue, no_words, child_views, passed_on, child_made, queues_four}

-- words k of all records, where words j to j + n - 1 of a record are stored
others_stay : (m : List ℕ) (c j t k n : ℕ) (ws : List ℕ) → length ws ≡ n → j + n ≤ 48 → k < 48 → (k < j) ⊎ (j + n ≤ k)
    → read (store_all m (address (task c j)) ws) (task t k) ≡ read m (task t k)
unfolding read address
others_stay m c j t k n ws l a b d = block_other ws m (1472 + c * 48 + j) (1472 + t * 48 + k) (λ i g e. apart i (rw l at g) e d)
  where
    apart : (i : ℕ) → i < n → 1472 + t * 48 + k ≡ 1472 + c * 48 + j + i → (k < j) ⊎ (j + n ≤ k) → ⊥
    apart i g e (inl f) = omega (arith, g, e, f, a, b)
    apart i g e (inr f) = omega (arith, g, e, f, a, b)

queues_same : (f g : ℕ → ℕ) → ((q : ℕ) → q < 4 → f q ≡ g q) → for_queues f ≡ for_queues g
unfolding for_queues
queues_same f g e =
    ap (λ (x : ℕ). x ∷ f 1 ∷ f 2 ∷ f 3 ∷ []) (e 0 (omega arith))
    ∙ ap (λ (x : ℕ). g 0 ∷ x ∷ f 2 ∷ f 3 ∷ []) (e 1 (omega arith))
    ∙ ap (λ (x : ℕ). g 0 ∷ g 1 ∷ x ∷ f 3 ∷ []) (e 2 (omega arith))
    ∙ ap (λ (x : ℕ). g 0 ∷ g 1 ∷ g 2 ∷ x ∷ []) (e 3 (omega arith))

-- four words in front of others
more_four : (m m' : List ℕ) (c k : ℕ) (xs ys : List ℕ) → length xs ≡ 4 → m' ≡ store_all m (address (task c k)) xs
    → store_all m (address (task c k)) (xs ++ ys) ≡ store_all m' (address (task c (k + 4))) ys
unfolding address
more_four m m' c k xs ys l e =
    store_append xs m (1472 + c * 48 + k) ys
    ∙ ap (λ (x : List ℕ). store_all x (1472 + c * 48 + k + length xs) ys) (sym e)
    ∙ ap (λ (a : ℕ). store_all m' a ys) (let z : 1472 + c * 48 + k + length xs ≡ 1472 + c * 48 + (k + 4) = omega (arith, l) in z)

-- a store of four words, and what the words of a record above them are then
module _ (c t : ℕ) where
  stays : (m m' : List ℕ) (j k : ℕ) (ws : List ℕ) → length ws ≡ 4 → j + 4 ≤ k → k < 48 → m' ≡ store_all m (address (task c j)) ws
      → read m' (task t k) ≡ read m (task t k)
  stays m m' j k ws l a b e = ap (λ (x : List ℕ). read x (task t k)) e ∙ others_stay m c j t k 4 ws l (omega (arith, a, b)) b (inr a)

  pub views_made : (r p : ℕ) (m m1 m2 m3 m4 m5 m6 m7 : List ℕ) → ((q : ℕ) → q < 4 → uses p q ≡ pops r q)
      → m1 ≡ store_all m (address (task c 16)) (for_queues (λ q. passed_user p (read m (task t (16 + q))) q))
      → m2 ≡ store_all m1 (address (task c 20)) no_words
      → m3 ≡ store_all m2 (address (task c 24)) (for_queues (λ q. passed_user r (read m2 (task t (24 + q))) q))
      → m4 ≡ store_all m3 (address (task c 28)) no_words
      → m5 ≡ store_all m4 (address (task c 32)) no_words
      → m6 ≡ store_all m5 (address (task c 36)) (for_queues (λ q. passed_user r (read m5 (task t (36 + q))) q))
      → m7 ≡ store_all m6 (address (task c 40)) no_words
      → m7 ≡ store_all m (address (task c 16)) (child_views m t r)
  unfolding child_views passed_user passed_queue
  views_made r p m m1 m2 m3 m4 m5 m6 m7 only e1 e2 e3 e4 e5 e6 e7 =
      sym
      (more_four m m1 c 16 _ _ (queues_four _)
      (e1 ∙ ap (store_all m (address (task c 16))) (queues_same _ _ (λ q l. ap (λ (b : Bool). pick b (read m (queue_head t q)) NONE) (only q l))))
      ∙ more_four m1 m2 c 20 no_words _ refl e2
      ∙ more_four m2 m3 c 24 _ _ (queues_four _) (e3 ∙ ap (store_all m2 (address (task c 24))) (queues_same _ _ heads))
      ∙ more_four m3 m4 c 28 no_words _ refl e4
      ∙ more_four m4 m5 c 32 no_words _ refl e5
      ∙ more_four m5 m6 c 36 _ _ (queues_four _) (e6 ∙ ap (store_all m5 (address (task c 36))) (queues_same _ _ tails))
      ∙ sym e7)
    where
      two : (q k : ℕ) → 24 ≤ k → k < 48 → read m2 (task t k) ≡ read m (task t k)
      two q k a b = stays m1 m2 20 k no_words refl (omega (arith, a)) b e2 ∙ stays m m1 16 k _ (queues_four _) (omega (arith, a)) b e1

      heads : (q : ℕ) → q < 4 → passed_user r (read m2 (task t (24 + q))) q ≡ passed_user r (read m (head USER t q)) q
      heads q l = ap (λ (w : ℕ). passed_user r w q) (two q (24 + q) (omega arith) (omega (arith, l)))

      five : (k : ℕ) → 36 ≤ k → k < 48 → read m5 (task t k) ≡ read m (task t k)
      five k a b =
          stays m4 m5 32 k no_words refl (omega (arith, a)) b e5
          ∙ stays m3 m4 28 k no_words refl (omega (arith, a)) b e4
          ∙ stays m2 m3 24 k _ (queues_four _) (omega (arith, a)) b e3
          ∙ two 0 k (omega (arith, a)) b

      tails : (q : ℕ) → q < 4 → passed_user r (read m5 (task t (36 + q))) q ≡ passed_user r (read m (tail USER t q)) q
      tails q l = ap (λ (w : ℕ). passed_user r w q) (five (36 + q) (omega arith) (omega (arith, l)))

pub kept_made : (t r p : ℕ) (m m1 m2 m3 : List ℕ) → ((q : ℕ) → q < 4 → uses p q ≡ pops r q)
    → m1 ≡ store_all m (address (task t 16)) (for_queues (λ q. kept_user p (read m (task t (16 + q))) q))
    → m2 ≡ store_all m1 (address (task t 24)) (for_queues (λ q. kept_user r (read m1 (task t (24 + q))) q))
    → m3 ≡ store_all m2 (address (task t 36)) (for_queues (λ q. kept_user r (read m2 (task t (36 + q))) q))
    → m3 ≡ passed_on m t r
unfolding passed_on kept_user kept_queue
kept_made t r p m m1 m2 m3 only e1 e2 e3 =
    e3
    ∙ ap (store_all m2 (address (task t 36))) (queues_same _ (λ q. kept_user r (read m (tail USER t q)) q) tails)
    ∙ ap (λ (x : List ℕ). store_all x (address (task t 36)) (for_queues (λ q. kept_user r (read m (tail USER t q)) q)))
    (e2
    ∙ ap (store_all m1 (address (task t 24))) (queues_same _ (λ q. kept_user r (read m (head USER t q)) q) heads)
    ∙ ap (λ (x : List ℕ). store_all x (address (task t 24)) (for_queues (λ q. kept_user r (read m (head USER t q)) q)))
    (e1 ∙ ap (store_all m (address (task t 16))) (queues_same _ _ (λ q l. ap (λ (b : Bool). pick b NONE (read m (queue_head t q))) (only q l)))))
  where
    one : (k : ℕ) → 20 ≤ k → k < 48 → read m1 (task t k) ≡ read m (task t k)
    one k a b = stays t t m m1 16 k _ (queues_four _) (omega (arith, a)) b e1

    heads : (q : ℕ) → q < 4 → kept_user r (read m1 (task t (24 + q))) q ≡ kept_user r (read m (head USER t q)) q
    heads q l = ap (λ (w : ℕ). kept_user r w q) (one (24 + q) (omega arith) (omega (arith, l)))

    tails : (q : ℕ) → q < 4 → kept_user r (read m2 (task t (36 + q))) q ≡ kept_user r (read m (tail USER t q)) q
    tails q l =
        ap (λ (w : ℕ). kept_user r w q)
        (stays t t m1 m2 24 (36 + q) _ (queues_four _) (omega arith) (omega (arith, l)) e2 ∙ one (36 + q) (omega arith) (omega (arith, l)))

views_same : (t r : ℕ) (m m' : List ℕ) → ((k : ℕ) → 16 ≤ k → k < 48 → read m' (task t k) ≡ read m (task t k)) → child_views m' t r ≡ child_views m t r
unfolding child_views
views_same t r m m' e =
    ap (λ (l : List ℕ). l ++ (no_words ++ (users m' ++ (no_words ++ (no_words ++ (ends m' ++ no_words))))))
    (queues_same _ _ (λ q l. ap (λ (w : ℕ). passed_queue r w q) (e (16 + q) (omega arith) (omega (arith, l)))))
    ∙ ap (λ (l : List ℕ). heads ++ (no_words ++ (l ++ (no_words ++ (no_words ++ (ends m' ++ no_words))))))
    (queues_same _ _ (λ q l. ap (λ (w : ℕ). passed_user r w q) (e (24 + q) (omega arith) (omega (arith, l)))))
    ∙ ap (λ (l : List ℕ). heads ++ (no_words ++ (users m ++ (no_words ++ (no_words ++ (l ++ no_words))))))
    (queues_same _ _ (λ q l. ap (λ (w : ℕ). passed_user r w q) (e (36 + q) (omega arith) (omega (arith, l)))))
  where
    heads : List ℕ
    heads = for_queues (λ q. passed_queue r (read m (queue_head t q)) q)

    users : List ℕ → List ℕ
    users x = for_queues (λ q. passed_user r (read x (head USER t q)) q)

    ends : List ℕ → List ℕ
    ends x = for_queues (λ q. passed_user r (read x (tail USER t q)) q)

module _ (t r c o : ℕ) (m m1 m2 m3 m4 : List ℕ) (e0 : o ≡ read m (task t YOUNGEST))
    (e1 : m1 ≡ store_all m (address (task c 0)) (UNFINISHED ∷ r ∷ t ∷ o ∷ NONE ∷ NONE ∷ []))
    (e2 : m2 ≡ store_all m1 (address (task c 16)) (child_views m1 t r)) (e3 : m3 ≡ passed_on m2 t r) (e4 : m4 ≡ write m3 (task t YOUNGEST) c) where
  views_now : child_views m1 t r ≡ child_views m t r
  views_now =
      views_same t r m m1 (λ k a b. ap (λ (x : List ℕ). read x (task t k)) e1 ∙ others_stay m c 0 t k 6 _ refl (omega arith) b (inr (omega (arith, a))))

  -- the links of the child, and then its views
  abbrev made : List ℕ
  made = store_all (store_all m (address (task c 0)) (UNFINISHED ∷ r ∷ t ∷ read m (task t YOUNGEST) ∷ NONE ∷ NONE ∷ [])) (address (task c 16)) (child_views m t r)

  first_made : m2 ≡ made
  first_made =
      e2
      ∙ ap (store_all m1 (address (task c 16))) views_now
      ∙ ap (λ (x : List ℕ). store_all x (address (task c 16)) (child_views m t r))
      (e1 ∙ ap (λ (w : ℕ). store_all m (address (task c 0)) (UNFINISHED ∷ r ∷ t ∷ w ∷ NONE ∷ NONE ∷ [])) e0)

  then_made : m4 ≡ write (passed_on made t r) (task t YOUNGEST) c
  then_made = e4 ∙ ap (λ (x : List ℕ). write x (task t YOUNGEST) c) (e3 ∙ ap (λ (x : List ℕ). passed_on x t r) first_made)

  pub first_child : o ≡ NONE → m4 ≡ child_made m t r c
  unfolding child_made
  first_child e = then_made ∙ sym (halt _ _ (eq-eqb _ _ (sym e0 ∙ e)))

  pub next_child : (m5 : List ℕ) → (o ≡ NONE → ⊥) → m5 ≡ write m4 (task o YOUNGER) c → m5 ≡ child_made m t r c
  unfolding child_made
  next_child m5 n e5 =
      e5
      ∙ ap (λ (w : ℕ). write m4 (task w YOUNGER) c) e0
      ∙ ap (λ (x : List ℕ). write x (task (read m (task t YOUNGEST)) YOUNGER) c) then_made
      ∙ sym (pass _ (ne_eqb _ _ (λ q. n (e0 ∙ q))) refl)

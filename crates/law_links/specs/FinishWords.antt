-- The words of a finish have the new links.
use Rattle.std.specs.Prelude.{◌≡◌, Bool, ◌⊎◌, ℕ, ◌+◌, ◌<◌, replicate}
use Rattle.std.proofs.Math.Path.{refl, ap}
use Rattle.std.proofs.Common.{sym, ◌∙◌, subst, inl, inr, arith, eqb-true, eq-eqb, ne_eqb, lt-ltb}
use Rattle.std.proofs.Math.Bool.{true, false}
use mathlib.Core.List.{List}
use Rattle.std.proofs.Math.Dec.{eqb}
use Rattle.std.proofs.lemmas.Bool.{eqb-false}
use Rattle.spec_words.specs.Words.{size, load_other, pick, pick_true, pick_false, pass, halt}
use Rattle.spec_words.specs.Blocks.{store_all, size_store_all}
use Rattle.spec_layout.specs.Layout.{WORDS, NONE, FREE, STATUS, PARENT, OLDER, YOUNGER, YOUNGEST, Field, task, free_tasks, free_task, address, read, write}
use Rattle.spec_layout.proofs.Frame.{size_write, read_same}
use Rattle.spec_outcomes.specs.Finish.{unlinked, freed_record}
use Rattle.law_links.specs.Blocks.{block_in, block_task, block_front}
use Rattle.law_links.specs.SpawnWords.{other_word, away}
use Rattle.law_links.specs.Frame.{SameLinks}
use Rattle.law_links.specs.Finish.{Finished}

-- A below limit or none
abbrev Kind : ℕ → Type 0
Kind x = (x ≡ NONE) ⊎ (x < 128)

below : (x : ℕ) → Kind x → (x ≡ NONE → ⊥) → x < 128
below x (inl e) n = absurd (n e)
below x (inr l) n = l

-- t LEAVES THE LIST OF ITS SIBLINGS
module _ (m : List ℕ) (sized : size m ≡ WORDS) (t : ℕ) (o-kind : Kind (read m (task t OLDER))) (y-kind : Kind (read m (task t YOUNGER)))
    (small : read m (task t PARENT) < 128) where
  abbrev o : ℕ
  o = read m (task t OLDER)

  abbrev y : ℕ
  y = read m (task t YOUNGER)

  abbrev p : ℕ
  p = read m (task t PARENT)

  abbrev m1 : List ℕ
  m1 = pick (eqb o NONE) m (write m (task o YOUNGER) y)

  size1 : size m1 ≡ WORDS
  size1 = go (eqb o NONE)
    where
      go : (b : Bool) → size (pick b m (write m (task o YOUNGER) y)) ≡ WORDS
      go true = ap size (pick_true m _) ∙ sized
      go false = ap size (pick_false m _) ∙ size_write m (task o YOUNGER) y ∙ sized

  pub unlinked_size : size (unlinked m t) ≡ WORDS
  unfolding unlinked
  unlinked_size = go (eqb y NONE)
    where
      go : (b : Bool) → size (pick b (write m1 (task p YOUNGEST) o) (write m1 (task y OLDER) o)) ≡ WORDS
      go true = ap size (pick_true _ _) ∙ size_write m1 (task p YOUNGEST) o ∙ size1
      go false = ap size (pick_false _ _) ∙ size_write m1 (task y OLDER) o ∙ size1

  -- the first write
  first_other : (x k : ℕ) → x < 128 → k < 6 → ((x ≡ o) × (k ≡ YOUNGER) → ⊥) → read m1 (task x k) ≡ read m (task x k)
  first_other x k l i n = go (eqb o NONE) refl
    where
      go : (b : Bool) → eqb o NONE ≡ b → read (pick (eqb o NONE) m (write m (task o YOUNGER) y)) (task x k) ≡ read m (task x k)
      go true e = ap (λ (w : List ℕ). read w (task x k)) (halt m _ e)
      go false e =
          ap (λ (w : List ℕ). read w (task x k)) (pass m e refl)
          ∙ other_word m x k o YOUNGER y l (omega (arith, i)) (below o o-kind (eqb-false o NONE e)) (omega arith) n

  first_older : (o ≡ NONE → ⊥) → read m1 (task o YOUNGER) ≡ y
  first_older n =
      ap (λ (w : List ℕ). read w (task o YOUNGER)) (pass m (ne_eqb o NONE n) refl) ∙ read_same m (task o YOUNGER) y sized (below o o-kind n, omega arith)

  -- the second
  second_other : (x k : ℕ) → x < 128 → k < 6 → ((y ≡ NONE) × (x ≡ p) × (k ≡ YOUNGEST) → ⊥) → ((x ≡ y) × (k ≡ OLDER) → ⊥)
      → read (unlinked m t) (task x k) ≡ read m1 (task x k)
  unfolding unlinked
  second_other x k l i n1 n2 = go (eqb y NONE) refl
    where
      go : (b : Bool) → eqb y NONE ≡ b → read (pick (eqb y NONE) (write m1 (task p YOUNGEST) o) (write m1 (task y OLDER) o)) (task x k) ≡ read m1 (task x k)
      go true e =
          ap (λ (w : List ℕ). read w (task x k)) (halt _ _ e)
          ∙ other_word m1 x k p YOUNGEST o l (omega (arith, i)) small (omega arith) (λ q. n1 (eqb-true y NONE e, q.0, q.1))
      go false e =
          ap (λ (w : List ℕ). read w (task x k)) (pass _ e refl)
          ∙ other_word m1 x k y OLDER o l (omega (arith, i)) (below y y-kind (eqb-false y NONE e)) (omega arith) n2

  second_youngest : y ≡ NONE → read (unlinked m t) (task p YOUNGEST) ≡ o
  unfolding unlinked
  second_youngest e = ap (λ (w : List ℕ). read w (task p YOUNGEST)) (halt _ _ (eq-eqb y NONE e)) ∙ read_same m1 (task p YOUNGEST) o size1 (small, omega arith)

  second_older : (y ≡ NONE → ⊥) → read (unlinked m t) (task y OLDER) ≡ o
  unfolding unlinked
  second_older n =
      ap (λ (w : List ℕ). read w (task y OLDER)) (pass _ (ne_eqb y NONE n) refl) ∙ read_same m1 (task y OLDER) o size1 (below y y-kind n, omega arith)

  pub unlinked_front : (f : Field) → address f < 1472 → read (unlinked m t) f ≡ read m f
  unfolding unlinked
  unlinked_front f l = go (eqb y NONE) ∙ one (eqb o NONE)
    where
      go : (b : Bool) → read (pick b (write m1 (task p YOUNGEST) o) (write m1 (task y OLDER) o)) f ≡ read m1 f
      go true = ap (λ (w : List ℕ). read w f) (pick_true _ _) ∙ away m1 p YOUNGEST o f l
      go false = ap (λ (w : List ℕ). read w f) (pick_false _ _) ∙ away m1 y OLDER o f l

      one : (b : Bool) → read (pick b m (write m (task o YOUNGER) y)) f ≡ read m f
      one true = ap (λ (w : List ℕ). read w f) (pick_true _ _)
      one false = ap (λ (w : List ℕ). read w f) (pick_false _ _) ∙ away m o YOUNGER y f l

-- ITS RECORD IS FREE
module _ (m : List ℕ) (sized : size m ≡ WORDS) (t : ℕ) (small : t < 128) (few : read m free_tasks < 128) where
  abbrev h : ℕ
  h = read m free_tasks

  abbrev zeros : List ℕ
  zeros = store_all m (address (task t 0)) (replicate 48 0)

  abbrev given : List ℕ
  given = write zeros (free_task h) t

  abbrev Freed : List ℕ
  Freed = write given free_tasks (h + 1)

  freed_is : freed_record m t ≡ Freed
  unfolding freed_record
  freed_is = halt _ _ (lt-ltb h 128 few)

  zeros_size : size zeros ≡ WORDS
  zeros_size = size_store_all m (address (task t 0)) (replicate 48 0) ∙ sized

  given_size : size given ≡ WORDS
  given_size = size_write zeros (free_task h) t ∙ zeros_size

  pub freed_size : size (freed_record m t) ≡ WORDS
  freed_size = ap size freed_is ∙ size_write given free_tasks (h + 1) ∙ given_size

  -- a word that is neither on the stack nor its height
  past : (f : Field) → (address f ≡ address (free_task h) → ⊥) → (address f ≡ address free_tasks → ⊥) → read Freed f ≡ read zeros f
  unfolding read write
  past f a b =
      load_other given (address free_tasks) (address f) (h + 1) b ∙ load_other zeros (address (free_task h)) (address f) t a

  pub freed_other : (x k : ℕ) → k < 48 → (x ≡ t → ⊥) → read (freed_record m t) (task x k) ≡ read m (task x k)
  unfolding address
  freed_other x k l n =
      ap (λ (w : List ℕ). read w (task x k)) freed_is
      ∙ past (task x k) (λ e. omega (arith, e, few)) (λ e. omega (arith, e))
      ∙ block_task m sized t 0 (replicate 48 0) small (omega arith) x k l n

  pub freed_status : read (freed_record m t) (task t STATUS) ≡ FREE
  unfolding address
  freed_status =
      ap (λ (w : List ℕ). read w (task t STATUS)) freed_is
      ∙ past (task t STATUS) (λ e. omega (arith, e, few)) (λ e. omega (arith, e))
      ∙ block_in m sized t 0 (replicate 48 0) small (omega arith) STATUS 0 refl (omega arith)

  pub freed_height : read (freed_record m t) free_tasks ≡ h + 1
  freed_height = ap (λ (w : List ℕ). read w free_tasks) freed_is ∙ read_same given free_tasks (h + 1) given_size (omega arith)

  pub freed_given : read (freed_record m t) (free_task h) ≡ t
  unfolding read write address
  freed_given =
      ap (λ (w : List ℕ). read w (free_task h)) freed_is
      ∙ load_other given 3 (320 + h) (h + 1) (λ e. omega (arith, e))
      ∙ read_same zeros (free_task h) t zeros_size few

  pub freed_stack : (i : ℕ) → i < h → read (freed_record m t) (free_task i) ≡ read m (free_task i)
  unfolding address
  freed_stack i l =
      ap (λ (w : List ℕ). read w (free_task i)) freed_is
      ∙ past (free_task i) (λ e. omega (arith, e, l)) (λ e. omega (arith, e))
      ∙ block_front m sized t 0 (replicate 48 0) small (omega arith) (free_task i) (omega (arith, l, few))

-- A FINISH: views were handed on before, which left the links of m as they were in k. t has links to itself nowhere.
module _ (m k : List ℕ) (t : ℕ) (same : SameLinks m k) (small : t < 128) (few : read m free_tasks < 128) (o-kind : Kind (read m (task t OLDER)))
    (y-kind : Kind (read m (task t YOUNGER))) (p-small : read m (task t PARENT) < 128) (n-o : read m (task t OLDER) ≡ t → ⊥)
    (n-y : read m (task t YOUNGER) ≡ t → ⊥) (n-p : read m (task t PARENT) ≡ t → ⊥) where
  eo : read k (task t OLDER) ≡ read m (task t OLDER)
  eo = same.words t OLDER small (omega arith)

  ey : read k (task t YOUNGER) ≡ read m (task t YOUNGER)
  ey = same.words t YOUNGER small (omega arith)

  ep : read k (task t PARENT) ≡ read m (task t PARENT)
  ep = same.words t PARENT small (omega arith)

  ko : Kind (read k (task t OLDER))
  ko = subst Kind (sym eo) o-kind

  ky : Kind (read k (task t YOUNGER))
  ky = subst Kind (sym ey) y-kind

  kp : read k (task t PARENT) < 128
  kp = let e = ep in omega (arith, e, p-small)

  abbrev u : List ℕ
  u = unlinked k t

  us : size u ≡ WORDS
  us = unlinked_size k same.sized t ko ky kp

  front : (f : Field) → address f < 1472 → read u f ≡ read k f
  front = unlinked_front k same.sized t ko ky kp

  eh : read u free_tasks ≡ read m free_tasks
  unfolding address
  eh = front free_tasks (omega arith) ∙ same.height

  fu : read u free_tasks < 128
  fu = let e = eh in omega (arith, e, few)

  abbrev n : List ℕ
  n = freed_record u t

  -- a word of another task
  to_u : (x j : ℕ) → j < 6 → (x ≡ t → ⊥) → read n (task x j) ≡ read u (task x j)
  to_u x j l ne = freed_other u us t small fu x j (omega (arith, l)) ne

  pub finish_words : Finished m n t
  unfolding address
  finish_words =
      record {
        sized = freed_size u us t small fu;
        status = freed_status u us t small fu;
        older_younger = λ e.
            ap (λ (x : ℕ). read n (task x YOUNGER)) (sym eo)
            ∙ to_u (read k (task t OLDER)) YOUNGER (omega arith) (λ q. n-o (sym eo ∙ q))
            ∙ second_other k same.sized t ko ky kp (read k (task t OLDER)) YOUNGER (below _ ko (λ q. e (sym eo ∙ q))) (omega arith)
            (λ q. let f = q.2 in omega (arith, f)) (λ q. let f = q.1 in omega (arith, f))
            ∙ first_older k same.sized t ko ky kp (λ q. e (sym eo ∙ q))
            ∙ ey;
        parents_youngest = λ e.
            ap (λ (x : ℕ). read n (task x YOUNGEST)) (sym ep)
            ∙ to_u (read k (task t PARENT)) YOUNGEST (omega arith) (λ q. n-p (sym ep ∙ q))
            ∙ second_youngest k same.sized t ko ky kp (ey ∙ e)
            ∙ eo;
        younger_older = λ e.
            ap (λ (x : ℕ). read n (task x OLDER)) (sym ey)
            ∙ to_u (read k (task t YOUNGER)) OLDER (omega arith) (λ q. n-y (sym ey ∙ q))
            ∙ second_older k same.sized t ko ky kp (λ q. e (sym ey ∙ q))
            ∙ eo;
        others = λ x j l i ne a b c.
            to_u x j i ne
            ∙ second_other k same.sized t ko ky kp x j l i (λ q. b (sym ey ∙ q.0, q.1 ∙ ep, q.2)) (λ q. c (q.0 ∙ ey, q.1))
            ∙ first_other k same.sized t ko ky kp x j l i (λ q. a (q.0 ∙ eo, q.1))
            ∙ same.words x j l i;
        height = freed_height u us t small fu ∙ ap (λ (x : ℕ). x + 1) eh;
        given = ap (λ (x : ℕ). read n (free_task x)) (sym eh) ∙ freed_given u us t small fu;
        stack = λ i l.
            freed_stack u us t small fu i (let e = eh in omega (arith, e, l))
            ∙ front (free_task i) (omega (arith, l, few))
            ∙ same.stack i (omega (arith, l, few));
      }

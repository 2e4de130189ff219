-- On memory that passes the rules each unfinished task has its word then, and the word tells whether the task is blocked.
use Rattle.std.specs.Prelude.{◌≡◌, Bool, ◌⊎◌, length, replicate}
use Rattle.std.proofs.Math.Path.{refl, ap, sym, subst}
use Rattle.std.proofs.Common.{◌∙◌, le_of_suc-le-suc, eq-or-lt_of_le}
use Rattle.std.proofs.Math.Bool.{true, false, not}
use Rattle.std.proofs.lemmas.Bool.{false≢true}
use mathlib.Core.List.{List}
use Rattle.std.proofs.Math.Logic.{inl, inr, ⊎_elim}
use Prim.Native.Nat.{ℕ, zero, suc, ◌<◌, ◌≤◌}
use native.Mathlib.Omega.{arith}
use Rattle.std.specs.Int.Bits.{bit_or}
use borrow.Author.Tests.{lt-ltb, le-ltb, ltb-true, ltb-false, eqb-true, eq-eqb, not-true}
use Rattle.spec_words.specs.Words.{load, store, size, pick, either, pass, halt, size_store, load_same, load_other, both_true, true_both}
use Rattle.spec_lists.specs.Counting.{equal?, below?}
use Rattle.spec_lists.specs.Marks.{zeros}
use Rattle.spec_layout.specs.Layout.{NONE, STATUS, PARENT, OLDER, YOUNGER, task, rights_of, read, record_of}
use Rattle.spec_layout.proofs.Frame.{record_word}
use Rattle.spec_tree.specs.Rights.{pops, shares_pop}
use Rattle.spec_rules.specs.Contents.{Contents, word, decode, scan_decodes}
use Rattle.spec_rules.specs.Rules.{Unfinished, Child, TaskRules, walk}
use Rattle.spec_rules.specs.Test.{test, rules_hold}
use Rattle.spec_outcomes.specs.Waits.{unfinished, blocked}
use Rattle.law_rules_tasks.specs.Tasks.{tasks_say}
use Rattle.core_blocked.specs.Siblings.{some_from, some_past, some_here, some_enough, older_pops, Tells, tells_blocked, pops_or, pops_none}
use Rattle.core_blocked.specs.Noted.{noted, is_oldest, family_noted, all_noted, noted_step, noted_past}

module _ (m : List ℕ) (rules : TaskRules (decode m)) where
  abbrev c : Contents
  c = decode m

  abbrev older : ℕ → ℕ
  older t = read m (task t OLDER)

  abbrev younger : ℕ → ℕ
  younger t = read m (task t YOUNGER)

  word_is : (t k : ℕ) → word c t k ≡ read m (task t k)
  unfolding word
  word_is t k = record_word m t k

  is_unfinished : (t : ℕ) → unfinished m t ≡ true → Unfinished c t
  unfolding unfinished
  is_unfinished t e = let w = both_true _ _ e in (ltb-true t 128 w.0, word_is t STATUS ∙ eqb-true _ _ w.1)

  is_oldest_lem : (t : ℕ) → Unfinished c t → 128 ≤ older t → younger t < 128 → is_oldest m t ≡ true
  unfolding is_oldest unfinished
  is_oldest_lem t u l y =
      true_both (true_both (lt-ltb t 128 u.0) (eq-eqb _ _ (sym (word_is t STATUS) ∙ u.1)))
      (true_both (ap not (le-ltb _ 128 l)) (lt-ltb _ 128 y))

  oldest_is : (t : ℕ) → is_oldest m t ≡ true → Unfinished c t × (128 ≤ older t)
  unfolding is_oldest
  oldest_is t e = let w = both_true _ _ e in (is_unfinished t w.0, ltb-false _ 128 (not-true _ (both_true _ _ w.1).0))

  -- t is unfinished: the top, or a child
  kind : (t : ℕ) → Unfinished c t → (t ≡ 0) ⊎ Child c (word c t PARENT) t
  kind t u = ⊎_elim inl (λ n. inr (n, (u, refl))) (equal? t 0)

  -- its older sibling, and its younger one, are unfinished and linked back
  pub older_is : (t : ℕ) → Unfinished c t → (older t ≡ NONE) ⊎ (Unfinished c (older t) × (younger (older t) ≡ t))
  older_is t u =
      subst (λ (o : ℕ). (o ≡ NONE) ⊎ (Unfinished c o × (younger o ≡ t))) (word_is t OLDER)
      (⊎_elim
      (λ z. inl (ap (λ (x : ℕ). word c x OLDER) z ∙ rules.top_alone.1.0))
      (λ k. ⊎_elim inl (λ w. inr (w.0.1.0, sym (word_is _ YOUNGER) ∙ w.1)) (rules.older_linked t _ k))
      (kind t u))

  pub younger_is : (t : ℕ) → Unfinished c t → (younger t ≡ NONE) ⊎ (Unfinished c (younger t) × (older (younger t) ≡ t))
  younger_is t u =
      subst (λ (o : ℕ). (o ≡ NONE) ⊎ (Unfinished c o × (older o ≡ t))) (word_is t YOUNGER)
      (⊎_elim
      (λ z. inl (ap (λ (x : ℕ). word c x YOUNGER) z ∙ rules.top_alone.1.1))
      (λ k. ⊎_elim (λ w. inl w.0) (λ w. inr (w.0.1.0, sym (word_is _ OLDER) ∙ w.1)) (rules.younger_linked t _ k))
      (kind t u))

  -- the list of older siblings ends
  older_ends : (t : ℕ) → Unfinished c t → (k : ℕ) × (k ≤ 128) × (walk (λ x. load (record_of m x) OLDER) k t ≡ NONE)
  unfolding word walk
  older_ends t u =
      ⊎_elim
      (λ z. (1, omega arith, ap (λ (x : ℕ). word c x OLDER) z ∙ rules.top_alone.1.0))
      (λ k. rules.no_sibling_ring t _ k)
      (kind t u)

  two_fewer : (t : ℕ) → (k : ℕ) × (k ≤ 128) × (walk (λ x. load (record_of m x) OLDER) k t ≡ NONE) → t < 128 → older t < 128
      → (k : ℕ) × (k ≤ 126) × (walk (λ x. load (record_of m x) OLDER) k (load (record_of m (older t)) OLDER) ≡ NONE)
  unfolding walk
  two_fewer t w l h = go w.0 w.1 w.2
    where
      step : load (record_of m t) OLDER ≡ older t
      step = record_word m t OLDER

      go : (k : ℕ) → k ≤ 128 → walk (λ x. load (record_of m x) OLDER) k t ≡ NONE
          → (k : ℕ) × (k ≤ 126) × (walk (λ x. load (record_of m x) OLDER) k (load (record_of m (older t)) OLDER) ≡ NONE)
      go zero b e = let z : ⊥ = omega (arith, l, e) in absurd z
      go (suc zero) b e = let z : ⊥ = omega (arith, sym step ∙ e, h) in absurd z
      go (suc (suc k)) b e = (k, omega (arith, b), ap (λ (y : ℕ). walk (λ x. load (record_of m x) OLDER) k (load (record_of m y) OLDER)) (sym step) ∙ e)

  -- ONE WORD: that of the oldest, and that of the younger sibling of a task with a right word
  oldest_told : (t : ℕ) → 128 ≤ older t → Tells m t 0
  unfolding older_pops
  oldest_told t l q s = pops_none q s ∙ sym (some_past (record_of m) 127 _ (older t) l)

  younger_told : (t w : ℕ) → Unfinished c t → older t < 128 → Tells m (older t) w → Tells m t (bit_or (rights_of m (older t)) w)
  unfolding older_pops
  younger_told t w u l told q s =
      let k = ends in
      let b = k.1 in
      pops_or (rights_of m o) w q s
      ∙ ap (either (pops (rights_of m o) q)) (told q s ∙ ap (some_from (record_of m) 128 (λ c. pops (rights_of m c) q)) (sym (record_word m o OLDER))
      ∙ sym (some_enough (record_of m) k.0 127 (λ c. pops (rights_of m c) q) _ (omega (arith, b)) (omega (arith, b)) k.2))
      ∙ sym (some_here (record_of m) 127 (λ c. pops (rights_of m c) q) o l)
    where
      o : ℕ
      o = older t

      ends : (k : ℕ) × (k ≤ 126) × (walk (λ y. load (record_of m y) OLDER) k (load (record_of m o) OLDER) ≡ NONE)
      ends = two_fewer t (older_ends t u) u.0 l

  -- THE WORDS of c and its younger siblings
  abbrev Told : List ℕ → ℕ → Type 0
  Told a t = Tells m t (load a t)

  noted_size : (n x w : ℕ) (a : List ℕ) → size (noted n m x w a) ≡ size a
  unfolding noted
  noted_size zero x w a = refl
  noted_size (suc n) x w a =
      ⊎_elim
      (λ l. ap size (noted_step n m x w a l) ∙ noted_size n _ _ _ ∙ size_store a x w)
      (λ l. ap size (noted_past (suc n) m x w a l))
      (below? x 128)

  -- a word that is written, and one that stays
  stored : (a : List ℕ) (x w : ℕ) → size a ≡ 128 → x < 128 → Tells m x w → (t : ℕ) → (x ≡ t) ⊎ Told a t → Told (store a x w) t
  stored a x w sized l told t h =
      ⊎_elim
      (λ q. subst (Told (store a x w)) q (subst (Tells m x) (sym (load_same a x w (omega (arith, sized, l)))) told))
      (λ n. subst (Tells m t) (sym (load_other a x t w (λ q. n (sym q)))) (⊎_elim (λ q. absurd (n q)) (λ g. g) h))
      (equal? x t)

  -- t is x or one of its younger siblings, n of them at most
  data Reaches : ℕ → ℕ → ℕ → Type 0 where
    here : {n x t : ℕ} → x ≡ t → Reaches (suc n) x t
    on : {n x t : ℕ} → younger x < 128 → Reaches n (younger x) t → Reaches (suc n) x t

  noted_told : (n x w : ℕ) (a : List ℕ) → size a ≡ 128 → Unfinished c x → Tells m x w → (t : ℕ) → Reaches n x t ⊎ Told a t → Told (noted n m x w a) t
  unfolding noted
  noted_told zero x w a sized u told t (inr h) = h
  noted_told zero x w a sized u told t (inl x7) = elim x7 [ ]
  noted_told (suc n) x w a sized u told t h =
      subst (λ (b : List ℕ). Told b t) (sym (noted_step n m x w a u.0))
      (⊎_elim
      (λ z. subst (λ (b : List ℕ). Told b t) (sym (noted_past n m (younger x) _ _ (omega (arith, z))))
      (⊎_elim (λ r. let l = r.0 in absurd (omega (arith, z, l))) (λ g. g) (next h)))
      (λ v.
      noted_told n (younger x) _ (store a x w) (size_store a x w ∙ sized) v.0
      (subst (λ (o : ℕ). Tells m (younger x) (bit_or (rights_of m o) w)) v.1
      (younger_told (younger x) w v.0 (let e = v.1 in let b = u.0 in omega (arith, e, b)) (subst (λ (o : ℕ). Tells m o w) (sym v.1) told)))
      t (⊎_elim (λ r. inl r.1) inr (next h)))
      (younger_is x u))
    where
      next : Reaches (suc n) x t ⊎ Told a t → ((younger x < 128) × Reaches n (younger x) t) ⊎ Told (store a x w) t
      next (inl (here q)) = inr (stored a x w sized u.0 told t (inl q))
      next (inl (on l r)) = inl (l, r)
      next (inr g) = inr (stored a x w sized u.0 told t (inr g))

  -- EACH UNFINISHED TASK is reached from the oldest of its siblings
  further : {n x o : ℕ} (t : ℕ) → Reaches n x o → younger o ≡ t → t < 128 → Reaches (suc n) x t
  further {n} {x} {o} t (here q) e l =
      let f : younger x ≡ t = ap younger q ∙ e in
      let g : younger x < 128 = omega (arith, f, l) in
      on g (here f)
  further t (on h r) e l = on h (further t r e l)

  wider : (n k x t : ℕ) → Reaches n x t → n ≤ k → Reaches k x t
  wider (suc n) (suc k) x t (here q) l = here q
  wider (suc n) (suc k) x t (on h r) l = on h (wider n k _ t r (le_of_suc-le-suc l))
  wider (suc n) zero x t r l = let z : ⊥ = omega (arith, l) in absurd z
  wider zero k x t r l = elim r [ ]

  from_oldest : (k t : ℕ) → walk (λ x. load (record_of m x) OLDER) k t ≡ NONE → Unfinished c t
      → (s : ℕ) × Unfinished c s × (128 ≤ older s) × Reaches k s t
  unfolding walk
  from_oldest zero t e u = let l = u.0 in let z : ⊥ = omega (arith, e, l) in absurd z
  from_oldest (suc k) t e u =
      ⊎_elim
      (λ z. (t, u, omega (arith, z), here refl))
      (λ v.
      let w = from_oldest k (older t) (subst (λ (o : ℕ). walk (λ x. load (record_of m x) OLDER) k o ≡ NONE) (record_word m t OLDER) e) v.0 in
      (w.0, w.1, w.2, further t w.3 v.1 u.0))
      (older_is t u)

  -- ALL FAMILIES
  family_size : (s : ℕ) (a : List ℕ) → size (family_noted m s a) ≡ size a
  unfolding family_noted
  family_size s a = go (is_oldest m s)
    where
      go : (b : Bool) → size (pick b (noted 128 m s 0 a) a) ≡ size a
      go true = ap size (halt _ _ refl) ∙ noted_size 128 s 0 a
      go false = ap size (pass _ refl refl)

  family_told : (s : ℕ) (a : List ℕ) → size a ≡ 128 → (t : ℕ) → ((is_oldest m s ≡ true) × Reaches 128 s t) ⊎ Told a t → Told (family_noted m s a) t
  unfolding family_noted
  family_told s a sized t h = go (is_oldest m s) refl
    where
      go : (b : Bool) → is_oldest m s ≡ b → Told (pick b (noted 128 m s 0 a) a) t
      go true e =
          let w = oldest_is s e in
          subst (λ (b : List ℕ). Told b t) (sym (halt _ _ refl))
          (noted_told 128 s 0 a sized w.0 (oldest_told s w.1) t (⊎_elim (λ g. inl g.1) inr h))
      go false e = subst (λ (b : List ℕ). Told b t) (sym (pass _ refl refl)) (⊎_elim (λ g. absurd (false≢true (sym e ∙ g.0))) (λ g. g) h)

  all_size : (n : ℕ) (a : List ℕ) → size (all_noted n m a) ≡ size a
  unfolding all_noted
  all_size zero a = refl
  all_size (suc n) a = family_size n _ ∙ all_size n a

  all_told : (n : ℕ) (a : List ℕ) → size a ≡ 128 → (s t : ℕ) → ((s < n) × (is_oldest m s ≡ true) × Reaches 128 s t) ⊎ Told a t
      → Told (all_noted n m a) t
  unfolding all_noted
  all_told zero a sized s t (inl w) = let l = w.0 in let z : ⊥ = omega (arith, l) in absurd z
  all_told zero a sized s t (inr g) = g
  all_told (suc n) a sized s t (inl w) =
      family_told n (all_noted n m a) (all_size n a ∙ sized) t
      (⊎_elim
      (λ q. inl (subst (λ (s : ℕ). (is_oldest m s ≡ true) × Reaches 128 s t) q (w.1, w.2)))
      (λ g. inr (all_told n a sized s t (inl (g, w.1, w.2))))
      (eq-or-lt_of_le (le_of_suc-le-suc w.0)))
  all_told (suc n) a sized s t (inr g) = family_told n (all_noted n m a) (all_size n a ∙ sized) t (inr (all_told n a sized s t (inr g)))

  -- s is the oldest of several siblings, or t is s, and alone: its word is 0 from the beginning
  several : (k s t : ℕ) (a : List ℕ) → k ≤ 128 → load a t ≡ 0 → Unfinished c s → 128 ≤ older s → Reaches k s t
      → ((s < 128) × (is_oldest m s ≡ true) × Reaches 128 s t) ⊎ Told a t
  several k s t a l z u o (here q) = inr (subst (Tells m t) (sym z) (subst (λ (x : ℕ). Tells m x 0) q (oldest_told s o)))
  several k s t a l z u o (on y r) = inl (u.0, is_oldest_lem s u o y, wider _ 128 s t (on y r) l)

-- THE WORDS then tell of each unfinished task whether it is blocked
abbrev pub Tell : List ℕ → List ℕ → Type 0
Tell m a = (t : ℕ) → unfinished m t ≡ true → shares_pop (load a t) (rights_of m t) ≡ blocked m t

pub told : {b : List ℕ} (m a : List ℕ) → rules_hold m ≡ true → a ≡ replicate 128 0 → b ≡ all_noted 128 m a → Tell m b
unfolding rules_hold test size
told m a h blank e t u =
    let d = both_true _ _ (both_true _ _ (both_true _ _ (ap test (sym (scan_decodes m)) ∙ h)).1).1 in
    let f = both_true _ _ d.1 in
    let rules = tasks_say (decode m) d.0 f.0 (both_true _ _ f.1).0 in
    let v = is_unfinished m rules t u in
    let k = older_ends m rules t v in
    let w = from_oldest m rules k.0 t k.2 v in
    tells_blocked m t _
    (subst (λ (b : List ℕ). Tells m t (load b t)) (sym e)
    (all_told m rules 128 a (ap length blank) w.0 t
    (several m rules k.0 w.0 t a k.1 (ap (λ (a : List ℕ). load a t) blank ∙ zeros 128 t) w.1 w.2 w.3)))

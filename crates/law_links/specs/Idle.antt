-- The stack of free task records as a list.
use Rattle.std.specs.Prelude.{◌≡◌, refl, List, [], ◌∷◌, ◌++◌, ℕ, zero, suc, ◌<◌, ◌≤◌, length, get_or, drop, take}
use Rattle.std.proofs.Common.{ap, ap₂, sym, ◌∙◌, arith, length-take, take-suc, length-take-le}
use Rattle.std.proofs.Math.ListN.{length-drop}
use Rattle.std.proofs.Math.Seq.{get_or-drop}
use Rattle.spec_words.specs.Words.{load, size}
use Rattle.spec_layout.specs.Layout.{WORDS, FREE_TASKS, free_tasks, free_task, address, read}
use Rattle.spec_rules.specs.Contents.{decode}

-- lists that agree on their first n words
take_same : (n : ℕ) (l k : List ℕ) → n ≤ length l → n ≤ length k → ((i : ℕ) → i < n → get_or k i 0 ≡ get_or l i 0) → take n k ≡ take n l
take_same zero l k a b h = refl
take_same (suc n) l k a b h =
    take-suc k n 0 (omega (arith, b))
    ∙ ap₂ (λ (x : List ℕ) (y : ℕ). x ++ (y ∷ [])) (take_same n l k (omega (arith, a)) (omega (arith, b)) (λ i l. h i (omega (arith, l)))) (h n (omega arith))
    ∙ sym (take-suc l n 0 (omega (arith, a)))

module _ (m : List ℕ) (sized : size m ≡ WORDS) where
  room : length (drop FREE_TASKS m) ≡ 16064
  unfolding size
  room = let a = length-drop FREE_TASKS m in let b = sized in omega (arith, a, b)

  -- record i of the stack
  pub stack_word : (i : ℕ) → get_or (drop FREE_TASKS m) i 0 ≡ read m (free_task i)
  unfolding read load address
  stack_word i = get_or-drop FREE_TASKS m i 0

  pub idle_length : read m free_tasks ≤ 16064 → length (decode m).idle ≡ read m free_tasks
  idle_length h = let a = room in length-take-le (read m free_tasks) (drop FREE_TASKS m) (omega (arith, a, h))

  pub idle_height : length (decode m).idle ≤ 127 → read m free_tasks ≤ 127
  idle_height h = let a = length-take (read m free_tasks) (drop FREE_TASKS m) in let b = room in omega (arith, a, b, h)

  -- the record used next stands last
  pub idle_last : (j : ℕ) → j < 128 → take (suc j) (drop FREE_TASKS m) ≡ take j (drop FREE_TASKS m) ++ (read m (free_task j) ∷ [])
  idle_last j l =
      let a = room in
      take-suc (drop FREE_TASKS m) j 0 (omega (arith, a, l)) ∙ ap (λ (x : ℕ). take j (drop FREE_TASKS m) ++ (x ∷ [])) (stack_word j)

-- two memories with the same stack up to a height
pub same_stack : (m n : List ℕ) → size m ≡ WORDS → size n ≡ WORDS → (h : ℕ) → h ≤ 128 → ((i : ℕ) → i < h → read n (free_task i) ≡ read m (free_task i))
    → take h (drop FREE_TASKS n) ≡ take h (drop FREE_TASKS m)
same_stack m n s t h l e =
    let a = room m s in
    let b = room n t in
    take_same h (drop FREE_TASKS m) (drop FREE_TASKS n) (omega (arith, a, l)) (omega (arith, b, l)) (λ i k. stack_word n t i ∙ e i k ∙ sym (stack_word m s i))

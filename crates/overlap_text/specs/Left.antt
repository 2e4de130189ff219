-- THE LINES OF WHAT IS LEFT ARE WHOLE: where left gives the values of a list by index, and 7 past its end, the lines of a queue are
-- those of the list. The text asks for at most 16,384 values; on memory that passes the rules there are never more, since a queue has
-- at most 256 segments of at most 64 values.
use Rattle.std.specs.Prelude.{◌≡◌, Bool, not, List, [], ◌∷◌, ◌++◌, ltb, length}
use Rattle.std.proofs.Math.Path.{refl, ap}
use Rattle.std.proofs.Common.{ap₂, sym, ◌∙◌, inl, ⊎_elim, arith}
use Rattle.std.proofs.Math.Bool.{true, false}
use Rattle.std.proofs.Math.Option.{Option, none, some}
use Prim.Native.Nat.{ℕ, zero, suc, ◌+◌, ◌-◌, ◌*◌, ◌<◌, ◌≤◌}
use Rattle.std.proofs.Math.Dec.{leb, eqb}
use Rattle.std.proofs.Math.ListN.{get_elem?}
use Rattle.std.proofs.Math.Seq.{take_all}
use borrow.Author.Tests.{leb-false, eqb-true, le-ltb}
use Rattle.spec_words.specs.Words.{size, pick, halt, pass}
use Rattle.spec_layout.specs.Layout.{WORDS, NL, STATUS, FINISHED, task, count, next, Opened, queue_head, read}
use Rattle.spec_answers.specs.declared.Answer.{Answer}
use Rattle.spec_answers.specs.declared.Answer.TheVariants.{Moved, Waits, Refused}
use Rattle.spec_answers.specs.Answers.{outcome, answer_of, status_of}
use Rattle.spec_order.specs.Ordered.{left_answer}
use Rattle.spec_rules.specs.Test.{rules_hold}
use Rattle.law_in_range.specs.Sound.{Sound, rules_sound}
use Rattle.spec_outcomes.specs.Segments.{value_at}
use Rattle.spec_outcomes.specs.Waits.{tested, unfinished}
use Rattle.spec_outcomes.specs.Left.{queued, left_tested, left_outcome}
use Rattle.spec_plain.specs.Machine.{queue}
use Rattle.spec_serial.specs.declared.End.TheVariants.{Ended}
use Rattle.block_text.specs.Lines.{lines_from}
use Rattle.block_text.specs.Values.{value_lines, onto, read_same, read_list}
use Rattle.serial_text.specs.Whole.{queue_lines as lines_of, end_text as lastLines}
use Rattle.overlap_text.specs.Whole.{left_at, given, value_in, queue_lines, end_text}

elem_few : (xs : List ℕ) (i : ℕ) → get_elem? xs i ≡ none → length xs ≤ i
unfolding onto
elem_few [] i e = omega arith
elem_few (x ∷ xs) zero e = let z = ap (λ (o : Option ℕ). length (onto o [])) e in absurd (omega (arith, z))
elem_few (x ∷ xs) (suc i) e = let h = elem_few xs i e in omega (arith, h)

-- lines that are the same for the numbers asked for
lines_same : (f g : ℕ → List ℕ) (n i : ℕ) → ((k : ℕ) → i ≤ k → k < i + n → f k ≡ g k) → lines_from f i n ≡ lines_from g i n
unfolding lines_from
lines_same f g zero i e = refl
lines_same f g (suc n) i e =
    ap₂ (λ (u v : List ℕ). u ++ v) (e i (omega arith) (omega arith)) (lines_same f g n (i + 1) (λ k a b. e k (omega (arith, a)) (omega (arith, b))))

-- THE BOUND: a chain of k segments has at most 64 k values.
module _ (m : List ℕ) (w : Sound m) where
  abbrev LocalOpened : ℕ → Type 0
  LocalOpened s = s < NL → Opened m s

  next_opened : (s : ℕ) → Opened m s → LocalOpened (read m (next s))
  next_opened s l h = ⊎_elim (λ x. x) (λ e. let z : ⊥ = omega (arith, h, e) in absurd z) (w.nexts s l)

  chain_ends : (k s i : ℕ) → LocalOpened s → k * 64 ≤ i → queued k m s i ≡ Refused 7
  unfolding queued
  chain_ends zero s i o h = refl
  chain_ends (suc k) s i o h = go (leb NL s) refl (chain_ends k)
    where
      rest : Answer
      rest = queued k m (read m (next s)) (i - read m (count s))

      go : (b : Bool) → leb NL s ≡ b → ((s i : ℕ) → LocalOpened s → k * 64 ≤ i → queued k m s i ≡ Refused 7)
          → pick (leb NL s) (Refused 7) (pick (ltb i (read m (count s))) (Moved (value_at m s i)) rest) ≡ Refused 7
      go true e f = halt _ _ e
      go false e f =
          let l = o (leb-false _ _ e) in
          let c = w.counts s l in
          let d = (w.length_range s).1 in
          let past = le-ltb i (read m (count s)) (omega (arith, c, d, h)) in
          pass _ e (pass _ past (f _ _ (next_opened s l) (omega (arith, c, d, h))))

  -- no value is left from number 16,384 on
  pub none_past : (q i : ℕ) → 16384 ≤ i → value_in m q i ≡ none
  unfolding left_at left_tested answer_of value_in given pick
  none_past q i h = go (leb 4 q) refl (not (eqb (read m (task 0 STATUS)) FINISHED))
    where
      go : (b : Bool) → leb 4 q ≡ b → (c : Bool)
          → given (answer_of (pick b (outcome (Refused 5) m) (pick c (outcome Waits m) (outcome (queued 256 m (read m (queue_head 0 q)) i) m)))) ≡ none
      go true e c = refl
      go false e true = refl
      go false e false =
          let s = leb-false 4 q e in
          ap given (chain_ends 256 (read m (queue_head 0 q)) i (w.heads_open 0 q (inl refl) (omega (arith, s))) (omega (arith, h)))

-- WHAT LEFT SAYS of queue q is the list xs.
module _ (m xs : List ℕ) (q : ℕ) (says : (i : ℕ) → answer_of (left_outcome m q i) ≡ left_answer (get_elem? xs i)) where
  -- it is neither 1 nor 2
  late : (x : Option ℕ) (k : ℕ) → k ≤ 2 → 1 ≤ k → answer_of (outcome (Refused k) m) ≡ left_answer x → ⊥
  unfolding answer_of left_answer status_of
  late (some v) k a b e = let z = ap status_of e in omega (arith, z, b)
  late none k a b e = let z = ap status_of e in omega (arith, z, a)

  -- so the memory passes, and what the text asks behind the test is the same
  passes : (size m ≡ 16384) × (rules_hold m ≡ true) × ((i : ℕ) → left_at m q i ≡ left_answer (get_elem? xs i))
  unfolding left_at left_outcome tested pick
  passes = go (eqb (size m) WORDS) refl (rules_hold m) says
    where
      go : (b : Bool) → eqb (size m) WORDS ≡ b → (c : Bool)
          → ((i : ℕ) → answer_of (pick (not b) (outcome (Refused 1) m) (pick (not c) (outcome (Refused 2) m) (left_tested m q i))) ≡ left_answer (get_elem? xs i))
          → (size m ≡ 16384) × (c ≡ true) × ((i : ℕ) → answer_of (left_tested m q i) ≡ left_answer (get_elem? xs i))
      go true e true f = (eqb-true _ _ e, refl, f)
      go true e false f = absurd (late _ 2 (omega arith) (omega arith) (f 0))
      go false e c f = absurd (late _ 1 (omega arith) (omega arith) (f 0))

  value_is : (o : Option ℕ) → given (left_answer o) ≡ o
  unfolding given left_answer
  value_is (some v) = refl
  value_is none = refl

  same_values : (i : ℕ) → value_in m q i ≡ get_elem? xs i
  unfolding value_in
  same_values i = ap given (passes.2 i) ∙ value_is (get_elem? xs i)

  few : length xs ≤ 16384
  few = elem_few xs 16384 (sym (same_values 16384) ∙ none_past m (rules_sound m passes.0 passes.1) q 16384 (omega arith))

  pub left_lines : queue_lines m q ≡ value_lines q xs
  unfolding queue_lines
  left_lines = ap (value_lines q) (read_same same_values 16384 0 ∙ read_list xs 16384 0 ∙ take_all 16384 xs few)

-- THE END OF THE TEXT: once the top has finished, and left gives the lists qs, its lines are those of the serial run that leaves qs.
-- Demand 3 gives the premise with the plain machine's lists (`left` of `Agreed`, crates/law_any_order/specs/Statement.antt).
pub left_whole : (m : List ℕ) (qs : List (List ℕ)) → unfinished m 0 ≡ false
    → ((q i : ℕ) → q < 4 → answer_of (left_outcome m q i) ≡ left_answer (get_elem? (queue qs q) i)) → end_text m ≡ lastLines Ended qs
unfolding end_text lastLines lines_of
left_whole m qs e f = pass _ e (lines_same _ _ 4 0 (λ q a b. left_lines m (queue qs q) q (λ i. f q i (omega (arith, b)))))

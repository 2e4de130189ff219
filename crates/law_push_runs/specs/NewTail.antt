-- A FREE SEGMENT IS TAKEN for the first value that finds no room, and is the tail of the user view from then on.
use Rattle.std.specs.Prelude.{◌≡◌, refl, false, ℕ, ◌+◌, ◌-◌, ◌*◌, ◌<◌, ◌≤◌}
use Rattle.std.proofs.Math.Path.{ap}
use Rattle.std.proofs.Common.{sym, ◌∙◌, arith, ⊎_elim, ne_eqb}
use Rattle.std.proofs.lemmas.Bool.{false≢true}
use mathlib.Core.List.{List}
use Rattle.spec_lists.specs.Counting.{below?}
use Rattle.spec_words.specs.Words.{size, pass, both_right_off}
use Rattle.spec_layout.specs.Layout.{Field, WORDS, NONE, USER, length_word, number_word, free_segments, free_segment, first, count, next, length_of}
use Rattle.spec_layout.specs.Layout.{value_word, Opened, free_height, tail, address, read, write}
use Rattle.spec_layout.proofs.Frame.{read_same, size_write}
use Rattle.spec_outcomes.specs.Segments.{next_free, taken}
use Rattle.spec_outcomes.specs.Views.{view_of, is_empty, tail_of}
use Rattle.spec_outcomes.specs.Push.{capacity}
use Rattle.law_maps.specs.Free.{record_set, record_set_lem, set_first, set_count}
use Rattle.law_maps.specs.Kept.{Only, read_away}
use Rattle.law_push_runs.specs.Pushable.{Pushable}
use Rattle.law_push_runs.specs.Watched.{Watched, opening, stack, record_word}

-- a view whose tail is no mark for none is not empty
pub tailed : (m : List ℕ) (t q e : ℕ) → read m (tail USER t q) ≡ e → e < NONE → is_empty (view_of m q t USER) ≡ false
unfolding view_of is_empty
tailed m t q e d l = both_right_off _ (ne_eqb (read m (tail USER t q)) NONE (λ z. omega (arith, z, d, l)))

module _ (m : List ℕ) (t q v : ℕ) (p : Pushable m t q) (some : 0 < free_height m q) where
  abbrev pub s : ℕ
  s = next_free m q

  abbrev pub rest : ℕ
  rest = free_height m q - 1

  pub new_opened : Opened m s
  unfolding next_free
  new_opened = p.free rest (omega (arith, some))

  pub new_low : s < 256
  new_low = let a = new_opened in let b = p.number in omega (arith, a, b)

  -- THE WORDS once it is taken
  lower : List ℕ
  lower = write m free_segments rest

  is_taken : taken m q v ≡ write (record_set lower s 0 1 NONE) (value_word m s 0) v
  unfolding taken lower
  is_taken = ap (λ (w : List ℕ). write w (value_word m s 0) v) (record_set_lem (write m free_segments rest) s 0 1 NONE)

  lower_size : size lower ≡ WORDS
  unfolding lower
  lower_size = size_write m free_segments rest ∙ p.words

  pub taken_size : size (taken m q v) ≡ WORDS
  taken_size =
      ap size is_taken ∙ size_write _ (value_word m s 0) v ∙ size_write _ (next s) NONE ∙ size_write _ (count s) 1 ∙ size_write _ (first s) 0 ∙ lower_size

  -- a word that is none of those written
  pub taken_away : (g : Field) → address g < 8192 → (address g ≡ 2 → ⊥) → ((k : ℕ) → k < 3 → address g ≡ 448 + s * 4 + k → ⊥)
      → read (taken m q v) g ≡ read m g
  unfolding lower address
  taken_away g l n r =
      ap (λ (w : List ℕ). read w g) is_taken
      ∙ read_away _ (value_word m s 0) g v (λ e. omega (arith, e, l))
      ∙ read_away _ (next s) g NONE (r 2 (omega arith))
      ∙ read_away _ (count s) g 1 (r 1 (omega arith))
      ∙ read_away _ (first s) g 0 (r 0 (omega arith))
      ∙ read_away m free_segments g rest n

  pub taken_height : read (taken m q v) free_segments ≡ rest
  unfolding lower address
  taken_height =
      ap (λ (w : List ℕ). read w free_segments) is_taken
      ∙ read_away _ (value_word m s 0) free_segments v (λ e. omega (arith, e))
      ∙ read_away _ (next s) free_segments NONE (λ e. omega (arith, e))
      ∙ read_away _ (count s) free_segments 1 (λ e. omega (arith, e))
      ∙ read_away _ (first s) free_segments 0 (λ e. omega (arith, e))
      ∙ read_same m free_segments rest p.words (omega arith)

  taken_first : read (taken m q v) (first s) ≡ 0
  unfolding address
  taken_first =
      ap (λ (w : List ℕ). read w (first s)) is_taken
      ∙ read_away _ (value_word m s 0) (first s) v (let a = new_low in λ e. omega (arith, e, a))
      ∙ set_first lower s 0 1 NONE lower_size new_low

  taken_count : read (taken m q v) (count s) ≡ 1
  unfolding address
  taken_count =
      ap (λ (w : List ℕ). read w (count s)) is_taken
      ∙ read_away _ (value_word m s 0) (count s) v (let a = new_low in λ e. omega (arith, e, a))
      ∙ set_count lower s 0 1 NONE lower_size new_low

  -- WHAT FOLLOWS leaves the words that tell the room: h segments are free then
  module _ (n : List ℕ) (h : ℕ) (kept : Only (Watched s rest) (taken m q v) n) (high : read n free_segments ≡ h) (most : h ≤ 256)
      (more : (i : ℕ) → rest ≤ i → i < h → Opened m (read n (free_segment i))) (end : read n (tail USER t q) ≡ s) where
    length_same : read n length_word ≡ read m length_word
    unfolding address
    length_same =
        kept.same length_word (opening (omega arith)) ∙ taken_away length_word (omega arith) (λ e. omega (arith, e)) (λ k l e. omega (arith, e))

    number_same : read n number_word ≡ read m number_word
    unfolding address
    number_same =
        kept.same number_word (opening (omega arith)) ∙ taken_away number_word (omega arith) (λ e. omega (arith, e)) (λ k l e. omega (arith, e))

    lower_place : (i : ℕ) → i < rest → read n (free_segment i) ≡ read m (free_segment i)
    unfolding address
    lower_place i l =
        let f = p.few in
        kept.same (free_segment i) (stack (omega arith) (omega (arith, l)))
        ∙ taken_away (free_segment i) (omega (arith, l, f)) (λ e. omega (arith, e)) (λ k j e. omega (arith, e, l, f))

    places : (i : ℕ) → i < h → Opened m (read n (free_segment i))
    places i l =
        ⊎_elim (λ a. let e = lower_place i a in let b = p.free i (omega (arith, a)) in omega (arith, e, b)) (λ a. more i a l) (below? i rest)

    first_is : read n (first s) ≡ 0
    unfolding address
    first_is = kept.same (first s) (record_word 0 (omega arith) refl) ∙ taken_first

    count_is : read n (count s) ≡ 1
    unfolding address
    count_is = kept.same (count s) (record_word 1 (omega arith) refl) ∙ taken_count

    pub tail_pushable : Pushable n t q
    tail_pushable =
        record {
          words = kept.words ∙ taken_size;
          lengths = λ x. let a = p.lengths x in let e = length_same in (omega (arith, a, e), omega (arith, a, e));
          number = let a = p.number in let e = number_same in omega (arith, a, e);
          fit = rw (length_same, number_same) p.fit;
          few = omega (arith, high, most);
          free = λ i l. let a = places i (omega (arith, l, high)) in let e = number_same in omega (arith, a, e);
          user = λ l. rw end (tail_sound);
          before = λ d. absurd (false≢true (sym (tailed n t q s end (let a = new_low in omega (arith, a))) ∙ d));
        }
      where
        tail_sound : (Opened n s) × (read n (first s) < length_of n s) × (read n (count s) ≤ length_of n s)
        tail_sound =
            let a = new_opened in
            let e = number_same in
            let b = (p.lengths s).0 in
            let d = length_same in
            let f = first_is in
            let g = count_is in
            (omega (arith, a, e), omega (arith, b, d, f), omega (arith, b, d, g))

    pub tail_capacity : capacity n t q ≡ length_of m s - 1 + h * length_of m s
    unfolding capacity view_of tail_of
    tail_capacity =
        pass _ (tailed n t q s end (let a = new_low in omega (arith, a)))
        (rw (end, count_is, length_same, high) refl)

-- LEFT ALONG A CHAIN: value number i of the linked segments is value number i of their values, one after the other.
use Rattle.std.specs.Prelude.{◌≡◌, Bool, true, false, List, [], ◌∷◌, ◌++◌, ltb, length}
use Rattle.std.proofs.Math.Path.{refl}
use Rattle.std.proofs.Common.{ap, sym, ◌∙◌, ⊎_elim, arith, le-leb, ltb-true, ltb-false}
use Rattle.std.proofs.Math.Option.{some}
use Prim.Native.Nat.{ℕ, zero, suc, ◌+◌, ◌-◌, ◌*◌, ◌<◌, ◌≤◌}
use Rattle.std.proofs.lemmas.Bool.{lt-leb}
use Rattle.spec_words.specs.Words.{pick, pass as skip, halt}
use Rattle.spec_lists.specs.Counting.{occurrences, occurs_here, occurs_past, equal?}
use Rattle.spec_layout.specs.Layout.{NONE, NL, value, first, count, next, length_of, read}
use Rattle.spec_answers.specs.declared.Answer.TheVariants.{Moved, Refused}
use Rattle.spec_outcomes.specs.Segments.{place, value_at}
use Rattle.spec_outcomes.specs.Left.{queued}
use Rattle.spec_order.specs.Ordered.{left_answer}
use Rattle.law_order_queue.specs.Points.{Point, value as point, user, values}
use Rattle.law_order_queue.specs.Finds.{nth_value, nth_behind}
use Rattle.law_gaps.specs.Store.{LinkedFrom, values_in}
use Rattle.law_maps.specs.Meaning.{listed, next_in, contents_in}
use Rattle.law_maps.specs.Reads.{next_at, contents_at, value_word_lem}
use Rattle.law_maps.specs.Ring.{count_length}
use Rattle.law_maps.specs.Free.{none_word, link_word}

-- VALUES
nth_listed : (f : ℕ → ℕ) (n i : ℕ) (ps : List Point) → i < n → nth_value i (values (listed f n) ++ ps) ≡ some (f i)
unfolding listed nth_value
nth_listed f zero i ps l = let z : ⊥ = omega (arith, l) in absurd z
nth_listed f (suc n) zero ps l = refl
nth_listed f (suc n) (suc i) ps l = nth_listed (λ k. f (suc k)) n i ps (omega (arith, l))

-- a spot is no value
pub nth_user : (i : ℕ) (t : ℕ) (ps rs : List Point) → nth_value i (ps ++ user t ∷ rs) ≡ nth_value i (ps ++ rs)
unfolding nth_value
nth_user i t [] rs = refl
nth_user i t (user u ∷ ps) rs = nth_user i t ps rs
nth_user zero t (point v ∷ ps) rs = refl
nth_user (suc i) t (point v ∷ ps) rs = nth_user i t ps rs

left_some : (v : ℕ) → Moved v ≡ left_answer (some v)
unfolding left_answer
left_some v = refl

left_none : (i : ℕ) → Refused 7 ≡ left_answer (nth_value i [])
unfolding left_answer nth_value
left_none i = refl

-- past the end
past_end : (k : ℕ) (m : List ℕ) (i : ℕ) → queued k m NONE i ≡ Refused 7
unfolding queued
past_end zero m i = refl
past_end (suc k) m i = halt _ _ (le-leb NL NONE (omega arith))

-- THE WORDS m have the segments of b, of which there are n
module _ (b m : List ℕ) (n : ℕ) (few : n ≤ 256) (same_length : (s : ℕ) → length_of m s ≡ length_of b s)
    (same : (s : ℕ) → s < 256 → (read m (first s) ≡ read b (first s)) × (read m (count s) ≡ read b (count s)) × (read m (next s) ≡ read b (next s)))
    (same_values : (i : ℕ) → read m (value i) ≡ read b (value i)) where
  same_value : (s i : ℕ) → s < 256 → value_at m s i ≡ value_at b s i
  same_value s i l =
      value_word_lem m s i (length_of b s) (read b (first s)) (same_length s) (same s l).0
      ∙ same_values (s * length_of b s + place (length_of b s) (read b (first s)) i)
      ∙ sym (value_word_lem b s i (length_of b s) (read b (first s)) refl refl)

  pub queued_chain : (k s : ℕ) (c : List ℕ) (i : ℕ) → LinkedFrom (next_in b) s c → ((x : ℕ) → 0 < occurrences x (s ∷ c) → x < n) → length (s ∷ c) ≤ k
      → queued k m s i ≡ left_answer (nth_value i (values_in (contents_in b) (s ∷ c)))
  unfolding queued
  queued_chain zero s c i h below short = let z : ⊥ = omega (arith, short) in absurd z
  queued_chain (suc k) s c i h below short =
      skip _ (lt-leb NL s (omega (arith, low)))
      (ap (λ (x : ℕ). pick (ltb i x) (Moved (value_at m s i)) (queued k m (read m (next s)) (i - x))) many
      ∙ go (ltb i (length (contents_in b s))) refl (queued_chain k))
    where
      low : s < 256
      low = let l = below s (let e = occurs_here s s c refl in omega (arith, e)) in omega (arith, l, few)

      many : read m (count s) ≡ length (contents_in b s)
      many = (same s low).1 ∙ count_length b s low

      -- in the segments behind
      behind : (c : List ℕ) (j : ℕ) → LinkedFrom (next_in b) s c → ((x : ℕ) → 0 < occurrences x (s ∷ c) → x < n) → length (s ∷ c) ≤ suc k
          → ((s : ℕ) (c : List ℕ) (i : ℕ) → LinkedFrom (next_in b) s c → ((x : ℕ) → 0 < occurrences x (s ∷ c) → x < n) → length (s ∷ c) ≤ k
          → queued k m s i ≡ left_answer (nth_value i (values_in (contents_in b) (s ∷ c))))
          → queued k m (read m (next s)) j ≡ left_answer (nth_value j (values_in (contents_in b) c))
      behind [] j h below short rest =
          ap (λ (x : ℕ). queued k m x j) ((same s low).2 ∙ none_word (read b (next s)) (sym (next_at b s low) ∙ h)) ∙ past_end k m j ∙ left_none j
      behind (t ∷ c) j h below short rest =
          ap (λ (x : ℕ). queued k m x j) ((same s low).2 ∙ link_word (read b (next s)) t (sym (next_at b s low) ∙ h.0))
          ∙ rest t c j h.1 (λ x p. below x (inside x p)) (omega (arith, short))
        where
          inside : (x : ℕ) → 0 < occurrences x (t ∷ c) → 0 < occurrences x (s ∷ t ∷ c)
          inside x p =
              ⊎_elim (λ e. let f = occurs_here s x (t ∷ c) e in omega (arith, f)) (λ e. let f = occurs_past s x (t ∷ c) e in omega (arith, f, p)) (equal? s x)

      go : (d : Bool) → ltb i (length (contents_in b s)) ≡ d
          → ((s : ℕ) (c : List ℕ) (i : ℕ) → LinkedFrom (next_in b) s c → ((x : ℕ) → 0 < occurrences x (s ∷ c) → x < n) → length (s ∷ c) ≤ k
          → queued k m s i ≡ left_answer (nth_value i (values_in (contents_in b) (s ∷ c))))
          → pick (ltb i (length (contents_in b s))) (Moved (value_at m s i)) (queued k m (read m (next s)) (i - length (contents_in b s))) ≡ left_answer
          (nth_value i (values (contents_in b s) ++ values_in (contents_in b) c))
      go true e rest =
          let l = ltb-true i (length (contents_in b s)) e in
          let f = contents_at b s low in
          let g = count_length b s low in
          halt _ _ e
          ∙ ap Moved (same_value s i low)
          ∙ left_some (value_at b s i)
          ∙ sym (ap left_answer (ap (λ (vs : List ℕ). nth_value i (values vs ++ values_in (contents_in b) c)) f
          ∙ nth_listed (value_at b s) (read b (count s)) i (values_in (contents_in b) c) (omega (arith, l, g))))
      go false e rest =
          let l = ltb-false i (length (contents_in b s)) e in
          skip _ e
          (behind c (i - length (contents_in b s)) h below short rest
          ∙ ap left_answer
          (sym (nth_behind (contents_in b s) (i - length (contents_in b s)) (values_in (contents_in b) c))
          ∙ ap (λ (x : ℕ). nth_value x (values (contents_in b s) ++ values_in (contents_in b) c))
          (let z : length (contents_in b s) + (i - length (contents_in b s)) ≡ i = omega (arith, l) in z)))

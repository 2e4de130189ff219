-- Laws of a line as a list of marks: what its parts have, and that no task stands in it twice. A line goes from the last
-- mark to the first: in b ++ (z ∷ a) the marks of b are later than z, and those of a are earlier.
use Rattle.std.specs.Prelude.{◌≡◌, refl, List, [], ◌∷◌, ◌++◌, ℕ, ◌+◌}
use Rattle.std.proofs.Common.{ap, sym, ◌∙◌, append_assoc, arith}
use Rattle.spec_lists.specs.Counting.{one_yes, occurrences, occurs_append}
use Rattle.spec_lists.specs.Maps.{Off, off}
use Rattle.law_gaps.specs.Line.{base, exited, entered, pass, Line, marks, exits, entries, segments, first_chain}
use Rattle.law_gaps.specs.Store.{Once}

pub marks_append : (a b : Line) → marks (a ++ b) ≡ marks a ++ marks b
marks_append [] b = refl
marks_append (base c ∷ a) b = marks_append a b
marks_append (exited t ∷ a) b = ap (λ (l : List ℕ). (128 + t) ∷ l) (marks_append a b)
marks_append (entered t c ∷ a) b = ap (λ (l : List ℕ). t ∷ l) (marks_append a b)
marks_append (pass x ∷ a) b = ap (λ (l : List ℕ). x ∷ l) (marks_append a b)

pub exits_append : (a b : Line) → exits (a ++ b) ≡ exits a ++ exits b
exits_append [] b = refl
exits_append (base c ∷ a) b = exits_append a b
exits_append (exited t ∷ a) b = ap (λ (l : List ℕ). t ∷ l) (exits_append a b)
exits_append (entered t c ∷ a) b = exits_append a b
exits_append (pass x ∷ a) b = exits_append a b

pub entries_append : (a b : Line) → entries (a ++ b) ≡ entries a ++ entries b
entries_append [] b = refl
entries_append (base c ∷ a) b = entries_append a b
entries_append (exited t ∷ a) b = entries_append a b
entries_append (entered t c ∷ a) b = ap (λ (l : List ℕ). t ∷ l) (entries_append a b)
entries_append (pass x ∷ a) b = entries_append a b

pub segments_append : (a b : Line) → segments (a ++ b) ≡ segments a ++ segments b
segments_append [] b = refl
segments_append (base c ∷ a) b = ap (λ (l : List ℕ). c ++ l) (segments_append a b) ∙ sym (append_assoc c (segments a) (segments b))
segments_append (exited t ∷ a) b = segments_append a b
segments_append (entered t c ∷ a) b = ap (λ (l : List ℕ). c ++ l) (segments_append a b) ∙ sym (append_assoc c (segments a) (segments b))
segments_append (pass x ∷ a) b = segments_append a b

-- the same in numbers
module _ (x : ℕ) (a b : Line) where
  pub count_exits : occurrences x (exits (a ++ b)) ≡ occurrences x (exits a) + occurrences x (exits b)
  count_exits = ap (occurrences x) (exits_append a b) ∙ occurs_append x (exits a) (exits b)

  pub count_entries : occurrences x (entries (a ++ b)) ≡ occurrences x (entries a) + occurrences x (entries b)
  count_entries = ap (occurrences x) (entries_append a b) ∙ occurs_append x (entries a) (entries b)

  pub count_segments : occurrences x (segments (a ++ b)) ≡ occurrences x (segments a) + occurrences x (segments b)
  count_segments = ap (occurrences x) (segments_append a b) ∙ occurs_append x (segments a) (segments b)

-- EACH TASK ONCE

pub once_behind : (b l : Line) → Once (b ++ l) → Once l
once_behind b l d x = (omega (arith, (d x).0, count_exits x b l), omega (arith, (d x).1, count_entries x b l))

-- a task that is exited between b and a is exited neither in b nor in a
pub exited_off : (t : ℕ) (b a : Line) → Once (b ++ (exited t ∷ a)) → Off t (exits b) × Off t (exits a)
unfolding occurrences
exited_off t b a d =
    let p = count_exits t b (exited t ∷ a) in
    let h = (d t).0 in
    let s = one_yes t t refl in
    (off t (exits b) (omega (arith, p, h, s)), off t (exits a) (omega (arith, p, h, s)))

pub entered_off : (t : ℕ) (c : List ℕ) (b a : Line) → Once (b ++ (entered t c ∷ a)) → Off t (entries b) × Off t (entries a)
unfolding occurrences
entered_off t c b a d =
    let p = count_entries t b (entered t c ∷ a) in
    let h = (d t).1 in
    let s = one_yes t t refl in
    (off t (entries b) (omega (arith, p, h, s)), off t (entries a) (omega (arith, p, h, s)))

-- task x has no mark of its own in a line, so no views
abbrev pub New : ℕ → Line → Type 0
New x l = (occurrences x (exits l) ≡ 0) × (occurrences x (entries l) ≡ 0)

-- THE BOTTOM: no queue view among the marks
abbrev pub NoBase : Line → Type 0
NoBase [] = Unit {0}
NoBase (base c ∷ l) = ⊥
NoBase (exited t ∷ l) = NoBase l
NoBase (entered t c ∷ l) = NoBase l
NoBase (pass x ∷ l) = NoBase l

pub no_base_append : (a b : Line) → NoBase a → NoBase b → NoBase (a ++ b)
no_base_append [] b h k = k
no_base_append (base c ∷ a) b h k = absurd h
no_base_append (exited t ∷ a) b h k = no_base_append a b h k
no_base_append (entered t c ∷ a) b h k = no_base_append a b h k
no_base_append (pass x ∷ a) b h k = no_base_append a b h k

pub first_behind : (b l : Line) → NoBase b → first_chain (b ++ l) ≡ first_chain l
first_behind [] l h = refl
first_behind (base c ∷ b) l h = absurd h
first_behind (exited t ∷ b) l h = first_behind b l h
first_behind (entered t c ∷ b) l h = first_behind b l h
first_behind (pass x ∷ b) l h = first_behind b l h

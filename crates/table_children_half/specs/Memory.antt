-- The words of a core with k children of the top that have no rights, opened with L = 1 and 4 segments: written out, so
-- that the checker can begin there.
use Rattle.std.specs.Prelude.{Bool, List, ◌∷◌, ◌++◌, ℕ, zero, suc, ◌+◌, ◌-◌, ◌*◌, eqb, replicate}
use Rattle.spec_words.specs.Words.{pick}
use Rattle.spec_layout.specs.Layout.{NONE, UNFINISHED}
use Rattle.spec_outcomes.specs.Open.{down, empty_segment, top_views}

-- task number t where it is below a, else none
unfoldable pub or_none : Bool → ℕ → ℕ
or_none b t = pick b NONE t

-- the record of the top, with youngest child k
unfoldable pub top_record : ℕ → List ℕ
top_record k =
    UNFINISHED ∷ 255 ∷ NONE ∷ NONE ∷ NONE ∷ or_none (eqb k 0) k ∷ (replicate 10 0 ++ (top_views ++ replicate 4 0))

-- the record of child i of k
unfoldable pub child_record : ℕ → ℕ → List ℕ
child_record k i =
    UNFINISHED ∷ 0 ∷ 0 ∷ or_none (eqb i 1) (i - 1) ∷ or_none (eqb i k) (i + 1) ∷ NONE ∷ (replicate 10 0 ++ (replicate 28 NONE ++ replicate 4 0))

-- the records of the n children from i on, in front of r
unfoldable pub child_records : ℕ → ℕ → ℕ → List ℕ → List ℕ
child_records k zero i r = r
child_records k (suc n) i r = child_record k i ++ child_records k n (i + 1) r

unfoldable pub segments : List ℕ
segments = empty_segment ++ (0 ∷ empty_segment ++ (0 ∷ empty_segment ++ (0 ∷ empty_segment ++ (0 ∷ replicate 1008 0))))

unfoldable pub wide : ℕ → List ℕ
wide k =
    1 ∷ 4 ∷ 0 ∷ (127 - k) ∷ (replicate 316 0 ++ (down 127 127 ++ (0 ∷ segments ++ (top_record k
    ++ child_records k k 1 (replicate (14864 - 48 * k) 0)))))

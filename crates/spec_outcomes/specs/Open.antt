-- open (length, segments)
use Rattle.std.specs.Prelude.{◌≡◌, refl, true, not, List, [], ◌∷◌, ℕ, zero, suc, ◌-◌, eqb, replicate}
use Rattle.std.proofs.Common.{ap, sym, eq-eqb}
use Rattle.spec_words.specs.Words.{size, pick, pass}
use Rattle.spec_words.specs.Blocks.{store_all}
use Rattle.spec_layout.specs.Layout.{WORDS, NONE, NL, UNFINISHED, QUEUE_HEADS, free_segment, free_task, segment, task, address}
use Rattle.spec_answers.specs.declared.Answer.TheVariants.{Moved, Refused}
use Rattle.spec_answers.specs.Answers.{Outcome, outcome}
use Rattle.spec_rules.specs.Test.{in_range}

-- n numbers, from x down
unfoldable pub down : ℕ → ℕ → List ℕ
down zero x = []
down (suc n) x = x ∷ down n (x - 1)

-- a new segment without values: first place, count, next
abbrev pub empty_segment : List ℕ
empty_segment = 0 ∷ 0 ∷ NONE ∷ []

-- the record of the top task: status, rights, parent, older, younger, youngest
abbrev pub top_links : List ℕ
top_links = UNFINISHED ∷ 255 ∷ NONE ∷ NONE ∷ NONE ∷ NONE ∷ []

-- its views: segment q is the head of queue view q and the tail of user view q; children and right views are empty
abbrev pub top_views : List ℕ
top_views =
    0 ∷ 1 ∷ 2 ∷ 3 ∷ NONE ∷ NONE ∷ NONE ∷ NONE ∷ NL ∷ NL ∷ NL ∷ NL ∷ NONE ∷ NONE ∷ NONE ∷ NONE
    ∷ NONE ∷ NONE ∷ NONE ∷ NONE ∷ 0 ∷ 1 ∷ 2 ∷ 3 ∷ NONE ∷ NONE ∷ NONE ∷ NONE ∷ []

-- "opening offers them in ascending order": the number used next stands last on its stack
unfoldable pub stacked : ℕ → List ℕ → List ℕ
stacked n m = store_all (store_all m (address (free_segment 0)) (down (n - 4) (n - 1))) (address (free_task 0)) (down 127 127)

unfoldable pub segmented : List ℕ → List ℕ
segmented m =
    let m1 = store_all m (address (segment 0 0)) empty_segment in
    let m2 = store_all m1 (address (segment 1 0)) empty_segment in
    let m3 = store_all m2 (address (segment 2 0)) empty_segment in
    store_all m3 (address (segment 3 0)) empty_segment

unfoldable pub topped : List ℕ → List ℕ
topped m = store_all (store_all m (address (task 0 0)) top_links) (address (task 0 QUEUE_HEADS)) top_views

-- the words of a new core
unfoldable pub opened : ℕ → ℕ → List ℕ
opened l n = topped (segmented (stacked n (store_all (replicate WORDS 0) 0 (l ∷ n ∷ (n - 4) ∷ 127 ∷ []))))

-- "Open tests 1, 3."
unfoldable pub open_outcome : List ℕ → ℕ → ℕ → Outcome
open_outcome m l n =
    pick (not (eqb (size m) WORDS)) (outcome (Refused 1) m)
    (pick (not (in_range l n)) (outcome (Refused 3) m)
    (outcome (Moved 0) (opened l n)))

-- "opening may find any words in the lent memory": it leaves nothing of them
pub open_forgets : (m w : List ℕ) (l n : ℕ) → size m ≡ WORDS → size w ≡ WORDS → in_range l n ≡ true → open_outcome m l n ≡ open_outcome w l n
unfolding open_outcome
open_forgets m w l n a b e =
    let inside = ap not e in pass _ (ap not (eq-eqb _ _ a)) (pass _ inside (sym (pass _ (ap not (eq-eqb _ _ b)) (pass _ inside refl))))

-- Laws of points, counts and balances: over two lists, and for one step.
use Rattle.std.specs.Prelude.{◌≡◌, refl, Bool, true, false, List, [], ◌∷◌, ◌++◌, ◌⊎◌, ℕ, ◌+◌, ◌-◌, ◌≤◌, eqb, length}
use Rattle.std.proofs.Common.{ap, sym, ◌∙◌, append_assoc, inl, inr, arith}
use Rattle.std.proofs.lemmas.Bool.{false≢true}
use Rattle.spec_words.specs.Words.{pick}
use Rattle.spec_tree.specs.Rights.{uses}
use Rattle.spec_order.specs.Steps.{Item, step, spot, Act, spawns, pushes, pops, tests, syncs, finishes, number_of, rights_of}
use Rattle.law_order_queue.specs.Points.{Point, value, user, values, added, along, takes, pop_count, Covers, Late, NoPopper}

-- a step adds nothing or one value
pub added_one : (q : ℕ) (a : Act) → (added q a ≡ []) ⊎ ((v : ℕ) × (added q a ≡ value v ∷ []))
unfolding added pick
added_one q (pushes p v) = go (eqb p q)
  where
    go : (b : Bool) → (pick b (value v ∷ []) [] ≡ []) ⊎ ((w : ℕ) × (pick b (value v ∷ []) [] ≡ value w ∷ []))
    go true = inr (v, refl)
    go false = inl refl
added_one q (spawns c r) = inl refl
added_one q (pops p) = inl refl
added_one q (tests p) = inl refl
added_one q syncs = inl refl
added_one q finishes = inl refl

pub along_append : (q : ℕ) (xs ys : List Item) → along q (xs ++ ys) ≡ along q xs ++ along q ys
unfolding along pick
along_append q [] ys = refl
along_append q (step p a ∷ xs) ys =
    ap (λ (l : List Point). added q a ++ l) (along_append q xs ys) ∙ sym (append_assoc (added q a) (along q xs) (along q ys))
along_append q (spot s ∷ xs) ys = go (uses (rights_of s) q) (along_append q xs ys)
  where
    go : (b : Bool) → along q (xs ++ ys) ≡ along q xs ++ along q ys
        → pick b (user (number_of s) ∷ along q (xs ++ ys)) (along q (xs ++ ys)) ≡ pick b (user (number_of s) ∷ along q xs) (along q xs) ++ along q ys
    go true e = ap (λ (l : List Point). user (number_of s) ∷ l) e
    go false e = e

pub pops_append : (q : ℕ) (xs ys : List Item) → pop_count q (xs ++ ys) ≡ pop_count q xs + pop_count q ys
unfolding pop_count
pops_append q [] ys = omega arith
pops_append q (step p a ∷ xs) ys = let e = pops_append q xs ys in omega (arith, e)
pops_append q (spot s ∷ xs) ys = pops_append q xs ys

-- how many values there are behind the steps
unfoldable pub balance : ℕ → ℕ → List Item → ℕ
balance q n [] = n
balance q n (step p a ∷ xs) = balance q (n + length (added q a) - takes q a) xs
balance q n (spot s ∷ xs) = balance q n xs

pub covers_append : (q n : ℕ) (xs ys : List Item) → Covers q n xs → Covers q (balance q n xs) ys → Covers q n (xs ++ ys)
unfolding balance
covers_append q n [] ys h k = k
covers_append q n (step p a ∷ xs) ys h k = (h.0, covers_append q (n + length (added q a) - takes q a) xs ys h.1 k)
covers_append q n (spot s ∷ xs) ys h k = covers_append q n xs ys h k

pub covers_front : (q n : ℕ) (xs ys : List Item) → Covers q n (xs ++ ys) → Covers q n xs
covers_front q n [] ys h = tt
covers_front q n (step p a ∷ xs) ys h = (h.0, covers_front q (n + length (added q a) - takes q a) xs ys h.1)
covers_front q n (spot s ∷ xs) ys h = covers_front q n xs ys h

pub covers_behind : (q n : ℕ) (xs ys : List Item) → Covers q n (xs ++ ys) → Covers q (balance q n xs) ys
unfolding balance
covers_behind q n [] ys h = h
covers_behind q n (step p a ∷ xs) ys h = covers_behind q (n + length (added q a) - takes q a) xs ys h.1
covers_behind q n (spot s ∷ xs) ys h = covers_behind q n xs ys h

-- more values do no harm
pub covers_more : (q n k : ℕ) (xs : List Item) → n ≤ k → Covers q n xs → Covers q k xs
covers_more q n k [] l h = tt
covers_more q n k (step p a ∷ xs) l h =
    let t = h.0 in (
      omega (arith, t, l),
      covers_more q (n + length (added q a) - takes q a) (k + length (added q a) - takes q a) xs (let i : n + length (added q a) - takes q a ≤ k + length (added q a) - takes q a = omega (arith, l) in i) h.1,
    )
covers_more q n k (spot s ∷ xs) l h = covers_more q n k xs l h

-- steps that pop nothing need nothing, and take nothing away
pub covers_still : (q n : ℕ) (xs : List Item) → pop_count q xs ≡ 0 → Covers q n xs × (n ≤ balance q n xs)
unfolding pop_count balance
covers_still q n [] e = (tt, omega arith)
covers_still q n (step p a ∷ xs) e =
    let w = covers_still q (n + length (added q a) - takes q a) xs (omega (arith, e)) in
    let l = w.1 in
    ((omega (arith, e), w.0), omega (arith, e, l))
covers_still q n (spot s ∷ xs) e = covers_still q n xs e

-- how many values stand among points
unfoldable pub value_count : List Point → ℕ
value_count [] = 0
value_count (value v ∷ ps) = 1 + value_count ps
value_count (user t ∷ ps) = value_count ps

pub count_values : (ps rs : List Point) → value_count (ps ++ rs) ≡ value_count ps + value_count rs
unfolding value_count
count_values [] rs = omega arith
count_values (value v ∷ ps) rs = let e = count_values ps rs in omega (arith, e)
count_values (user t ∷ ps) rs = count_values ps rs

pub all_values : (vs : List ℕ) → value_count (values vs) ≡ length vs
unfolding value_count
all_values [] = refl
all_values (v ∷ vs) = let e = all_values vs in omega (arith, e)

added_count : (q : ℕ) (a : Act) → value_count (added q a) ≡ length (added q a)
unfolding added value_count pick
added_count q (pushes p v) = go (eqb p q)
  where
    go : (b : Bool) → value_count (pick b (value v ∷ []) []) ≡ length (pick b (value v ∷ []) [])
    go true = refl
    go false = refl
added_count q (spawns c r) = refl
added_count q (pops p) = refl
added_count q (tests p) = refl
added_count q syncs = refl
added_count q finishes = refl

-- behind steps that are covered there is what was there, and was pushed, less what was popped
pub balance_is : (q n : ℕ) (xs : List Item) → Covers q n xs → balance q n xs + pop_count q xs ≡ n + value_count (along q xs)
unfolding balance pop_count along value_count pick
balance_is q n [] h = omega arith
balance_is q n (step p a ∷ xs) h =
    let i = h.0 in
    let e = balance_is q (n + length (added q a) - takes q a) xs h.1 in
    let f = added_count q a in
    let g = count_values (added q a) (along q xs) in
    omega (arith, i, e, f, g)
balance_is q n (spot s ∷ xs) h = balance_is q n xs h ∙ ap (λ (k : ℕ). n + k) (sym (go (uses (rights_of s) q)))
  where
    go : (b : Bool) → value_count (pick b (user (number_of s) ∷ along q xs) (along q xs)) ≡ value_count (along q xs)
    go true = refl
    go false = refl

-- LATE: where what stands behind is replaced
pub late_behind : (q : ℕ) (xs ys : List Item) → Late q (xs ++ ys) → Late q ys
late_behind q [] ys h = h
late_behind q (step p a ∷ xs) ys h = late_behind q xs ys h
late_behind q (spot s ∷ xs) ys h = late_behind q xs ys h.1

pub late_replace : (q : ℕ) (xs ys zs : List Item) → pop_count q zs ≡ pop_count q ys → Late q zs → Late q (xs ++ ys) → Late q (xs ++ zs)
late_replace q [] ys zs e l h = l
late_replace q (step p a ∷ xs) ys zs e l h = late_replace q xs ys zs e l h
late_replace q (spot s ∷ xs) ys zs e l h = (
  (λ m. let d = h.0 m in let f = pops_append q xs ys in let g = pops_append q xs zs in omega (arith, d, e, f, g)),
  late_replace q xs ys zs e l h.1,
)

pub late_free : (q : ℕ) (xs ys : List Item) → NoPopper q xs → Late q ys → Late q (xs ++ ys)
late_free q [] ys n l = l
late_free q (step p a ∷ xs) ys n l = late_free q xs ys n l
late_free q (spot s ∷ xs) ys n l =
    ((λ m. absurd (false≢true (sym n.0 ∙ m))), late_free q xs ys n.1 l)

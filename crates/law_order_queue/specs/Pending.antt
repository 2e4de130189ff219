-- What a plain first-in first-out queue over the steps holds, as a list: all values pushed, each with its flag, less as
-- many as were popped.
use Rattle.std.specs.Prelude.{◌≡◌, refl, Bool, true, false, List, [], ◌∷◌, ◌++◌, ℕ, zero, suc, ◌+◌, ◌-◌, ◌≤◌, eqb, length, drop}
use Rattle.std.proofs.Common.{ap, sym, ◌∙◌, append_assoc, append-nil, le_of_suc-le-suc, arith, length-append, length-drop, drop-drop}
use Rattle.spec_words.specs.Words.{pick, either}
use Rattle.spec_tree.specs.Rights.{pushes as mayPush}
use Rattle.spec_order.specs.Steps.{Item, step, spot, Act, spawns, pushes, pops, tests, syncs, finishes, rights_of}
use Rattle.spec_order.specs.Finding.{Pending, pending, run, later, stepped, passes, runs}
use Rattle.law_order_queue.specs.Points.{Point, value, user, added, takes, pop_count, Covers}

-- values with the flag b
unfoldable pub flags : Bool → List Point → List Pending
flags b [] = []
flags b (value v ∷ ps) = pending v b ∷ flags b ps
flags b (user t ∷ ps) = flags b ps

-- the values that a list of steps and spots pushes to queue q, each with the flag "a pusher's spot stands before"; b is
-- the flag at the start
unfoldable pub flagged : ℕ → Bool → List Item → List Pending
flagged q b [] = []
flagged q b (step p a ∷ xs) = flags b (added q a) ++ flagged q b xs
flagged q b (spot s ∷ xs) = flagged q (either b (mayPush (rights_of s) q)) xs

-- the flag at the end
unfoldable pub flag_after : ℕ → Bool → List Item → Bool
flag_after q b [] = b
flag_after q b (step p a ∷ xs) = flag_after q b xs
flag_after q b (spot s ∷ xs) = flag_after q (either b (mayPush (rights_of s) q)) xs

-- as many as there are in front are dropped there
drop_front : {A : Type 0} (n : ℕ) (xs ys : List A) → n ≤ length xs → drop n xs ++ ys ≡ drop n (xs ++ ys)
drop_front zero xs ys h = refl
drop_front (suc n) [] ys h = let z : ⊥ = omega (arith, h) in absurd z
drop_front (suc n) (x ∷ xs) ys h = drop_front n xs ys (le_of_suc-le-suc h)

flags_length : (b : Bool) (q : ℕ) (a : Act) → length (flags b (added q a)) ≡ length (added q a)
unfolding flags added pick
flags_length b q (pushes p v) = go (eqb p q)
  where
    go : (c : Bool) → length (flags b (pick c (value v ∷ []) [])) ≡ length (pick c (value v ∷ []) [])
    go true = refl
    go false = refl
flags_length b q (spawns c r) = refl
flags_length b q (pops p) = refl
flags_length b q (tests p) = refl
flags_length b q syncs = refl
flags_length b q finishes = refl

-- one step
stepped_is : (q : ℕ) (a : Act) (b : Bool) (vs : List Pending) → stepped q a (run b vs) ≡ run b (drop (takes q a) (vs ++ flags b (added q a)))
unfolding stepped takes added flags pick later
stepped_is q (pushes p v) b vs = go (eqb p q)
  where
    go : (c : Bool) → pick c (run b (vs ++ (pending v b ∷ []))) (run b vs) ≡ run b (vs ++ flags b (pick c (value v ∷ []) []))
    go true = refl
    go false = ap (run b) (sym (append-nil vs))
stepped_is q (pops p) b vs = go (eqb p q) vs
  where
    go : (c : Bool) (vs : List Pending) → pick c (run b (later vs)) (run b vs) ≡ run b (drop (pick c 1 0) (vs ++ []))
    go true [] = refl
    go true (w ∷ vs) = ap (run b) (sym (append-nil vs))
    go false vs = ap (run b) (sym (append-nil vs))
stepped_is q (spawns c r) b vs = ap (run b) (sym (append-nil vs))
stepped_is q (tests p) b vs = ap (run b) (sym (append-nil vs))
stepped_is q syncs b vs = ap (run b) (sym (append-nil vs))
stepped_is q finishes b vs = ap (run b) (sym (append-nil vs))

-- all steps
pub runs_is : (q : ℕ) (xs : List Item) (b : Bool) (vs : List Pending) → Covers q (length vs) xs
    → runs q xs (run b vs) ≡ run (flag_after q b xs) (drop (pop_count q xs) (vs ++ flagged q b xs))
unfolding runs flag_after pop_count flagged passes
runs_is q [] b vs h = ap (run b) (sym (append-nil vs))
runs_is q (spot s ∷ xs) b vs h = runs_is q xs (either b (mayPush (rights_of s) q)) vs h
runs_is q (step p a ∷ xs) b vs h =
    let k = takes q a in
    let g = flags b (added q a) in
    let f = flagged q b xs in
    let e = flags_length b q a in
    let d = length-append vs g in
    let t = h.0 in
    let l = length-drop k (vs ++ g) in
    let same : length (drop k (vs ++ g)) ≡ length vs + length (added q a) - k = omega (arith, e, d, l) in
    ap (runs q xs) (stepped_is q a b vs)
    ∙ runs_is q xs b (drop k (vs ++ g)) (rw same h.1)
    ∙ ap (λ (w : List Pending). run (flag_after q b xs) (drop (pop_count q xs) w)) (drop_front k (vs ++ g) f (omega (arith, e, d, t)))
    ∙ ap (run (flag_after q b xs))
    (drop-drop (pop_count q xs) k ((vs ++ g) ++ f) ∙ ap (drop (k + pop_count q xs)) (append_assoc vs g f))

-- The first popper of a queue under each step.
use Rattle.std.specs.Prelude.{◌≡◌, Bool, List, [], ◌∷◌, ◌++◌, ℕ, ◌<◌}
use Rattle.std.proofs.Math.Path.{refl, ap, sym}
use Rattle.std.proofs.Common.{◌∙◌, inl, inr, arith}
use Rattle.std.proofs.Math.Bool.{true, false}
use Rattle.std.proofs.lemmas.Bool.{false≢true}
use Rattle.std.proofs.Math.Option.{Option, none, some, some-injective, none-ne-some}
use Rattle.spec_words.specs.Words.{pick, pass, halt, true_both}
use Rattle.spec_tree.specs.Rights.{pops as mayPop}
use Rattle.spec_order.specs.Steps.{Name, Task, Item, step, spot, Act, name_of, number_of, rights_of, made}
use Rattle.spec_order.specs.Waits.{is_child, blocked, child_pops}
use Rattle.law_order.specs.Items.{In}
use Rattle.law_order.specs.Count.{count, spot_numbered, count_append, count_in}
use Rattle.law_order.specs.Reached.{Reached}
use Rattle.law_order.specs.Laws.{one_spot}
use Rattle.law_order_waits.specs.Spots.{says_some, pair_is, says_child, numbered, same_spot}
use Rattle.law_order_waits.specs.Played.{Played, played_reached}
use Rattle.law_order_waits.specs.Changes.{in_right}
use Rattle.law_order_waits.specs.Kinship.{kinship, says_blocked}
use Rattle.law_order_waits.specs.Popper.{first_popper, both_share, no_earlier}

-- the first of two that is there
unfoldable pub or_else : Option ℕ → Option ℕ → Option ℕ
or_else none b = b
or_else (some n) b = some n

popper_append : (q : ℕ) (xs ys : List Item) → first_popper q (xs ++ ys) ≡ or_else (first_popper q xs) (first_popper q ys)
unfolding first_popper or_else pick
popper_append q [] ys = refl
popper_append q (step p a ∷ xs) ys = popper_append q xs ys
popper_append q (spot s ∷ xs) ys = go (mayPop (rights_of s) q) (popper_append q xs ys)
  where
    go : (b : Bool) → first_popper q (xs ++ ys) ≡ or_else (first_popper q xs) (first_popper q ys)
        → pick b (some (number_of s)) (first_popper q (xs ++ ys)) ≡ or_else (pick b (some (number_of s)) (first_popper q xs)) (first_popper q ys)
    go true e = refl
    go false e = e

-- there is none where no spot pops
pub popper_none : (q : ℕ) (xs : List Item) → ((o : Task) → In (spot o) xs → mayPop (rights_of o) q ≡ true → ⊥) → first_popper q xs ≡ none
unfolding first_popper
popper_none q [] h = refl
popper_none q (step p a ∷ xs) h = popper_none q xs (λ o i. h o (inr i))
popper_none q (spot s ∷ xs) h = go (mayPop (rights_of s) q) refl (popper_none q xs (λ o i. h o (inr i)))
  where
    go : (b : Bool) → mayPop (rights_of s) q ≡ b → first_popper q xs ≡ none → pick (mayPop (rights_of s) q) (some (number_of s)) (first_popper q xs) ≡ none
    go true e f = absurd (h s (inl refl) e)
    go false e f = pass _ e f

-- it has a spot
pub popper_says : (q : ℕ) (xs : List Item) (n : ℕ) → first_popper q xs ≡ some n → (s : Task) × In (spot s) xs × (number_of s ≡ n) × (mayPop (rights_of s) q ≡ true)
unfolding first_popper
popper_says q [] n e = absurd (none-ne-some _ e)
popper_says q (step p a ∷ xs) n e = let w = popper_says q xs n e in (w.0, inr w.1, w.2, w.3)
popper_says q (spot s ∷ xs) n e = go (mayPop (rights_of s) q) refl (popper_says q xs n)
  where
    go : (b : Bool) → mayPop (rights_of s) q ≡ b → (first_popper q xs ≡ some n → (o : Task) × In (spot o) xs × (number_of o ≡ n) × (mayPop (rights_of o) q ≡ true))
        → (o : Task) × In (spot o) (spot s ∷ xs) × (number_of o ≡ n) × (mayPop (rights_of o) q ≡ true)
    go true b rest = (s, inl refl, some-injective _ _ (sym (halt _ _ b) ∙ e), b)
    go false b rest = let w = rest (sym (pass _ b refl) ∙ e) in (w.0, inr w.1, w.2, w.3)

-- the task with this number is not among the spots before its own
pub none_before : (ys zs : List Item) (s : Task) (q : ℕ) → Reached (ys ++ spot s ∷ zs) → first_popper q (ys ++ spot s ∷ zs) ≡ some (number_of s)
    → first_popper q ys ≡ none
unfolding or_else count
none_before ys zs s q h e = go (first_popper q ys) refl (sym (popper_append q ys (spot s ∷ zs)) ∙ e)
  where
    go : (o : Option ℕ) → first_popper q ys ≡ o → or_else (first_popper q ys) (first_popper q (spot s ∷ zs)) ≡ some (number_of s) → first_popper q ys ≡ none
    go none d f = d
    go (some n) d f =
        let m : n ≡ number_of s = some-injective _ _ (ap (λ (o : Option ℕ). or_else o (first_popper q (spot s ∷ zs))) (sym d) ∙ f) in
        let w = popper_says q ys n d in
        let t = number_of s in
        let a = count_in (spot_numbered t) (spot w.0) ys w.1 (numbered w.0 t (w.2 ∙ m)) in
        let b = count_in (spot_numbered t) (spot s) (spot s ∷ zs) (inl refl) (numbered s t refl) in
        let c = count_append (spot_numbered t) ys (spot s ∷ zs) in
        let g = (one_spot _ h).1 t in
        let z : ⊥ = omega (arith, a, b, c, g) in
        absurd z

all_none : (q : ℕ) (ys : List Item) (o : Task) → first_popper q ys ≡ none → In (spot o) ys → mayPop (rights_of o) q ≡ false
unfolding first_popper
all_none q [] o e i = absurd i
all_none q (step p a ∷ ys) o e (inl d) = let z : ◌≡◌ {A = ℕ} 0 1 = cc in absurd (omega (arith, z))
all_none q (step p a ∷ ys) o e (inr i) = all_none q ys o e i
all_none q (spot s ∷ ys) o e i = go (mayPop (rights_of s) q) refl i (all_none q ys o)
  where
    go : (b : Bool) → mayPop (rights_of s) q ≡ b → In (spot o) (spot s ∷ ys) → (first_popper q ys ≡ none → In (spot o) ys → mayPop (rights_of o) q ≡ false)
        → mayPop (rights_of o) q ≡ false
    go true b i rest = absurd (none-ne-some _ (sym e ∙ halt _ _ b))
    go false b (inl d) rest = ap (λ (x : Task). mayPop (rights_of x) q) (same_spot d) ∙ b
    go false b (inr i) rest = rest (sym (pass _ b refl) ∙ e) i

-- so no spot before it pops
pub first_says : (ys zs : List Item) (s : Task) (q : ℕ) → Reached (ys ++ spot s ∷ zs) → first_popper q (ys ++ spot s ∷ zs) ≡ some (number_of s)
    → (o : Task) → In (spot o) ys → mayPop (rights_of o) q ≡ false
first_says ys zs s q h e o i = all_none q ys o (none_before ys zs s q h e) i

-- and where none pops before it, it is the first
pub first_is : (ys zs : List Item) (s : Task) (q : ℕ) → mayPop (rights_of s) q ≡ true → first_popper q ys ≡ none
    → first_popper q (ys ++ spot s ∷ zs) ≡ some (number_of s)
unfolding first_popper or_else
first_is ys zs s q m e = popper_append q ys (spot s ∷ zs) ∙ ap (λ (o : Option ℕ). or_else o (first_popper q (spot s ∷ zs))) e ∙ halt _ _ m

-- A TASK THAT MAY POP and is kept from it by no sibling and no child is the first popper.
pub free_first : (ys zs : List Item) (s : Task) (q : ℕ) → q < 4 → Played (ys ++ spot s ∷ zs) → mayPop (rights_of s) q ≡ true
    → blocked (number_of s) (ys ++ spot s ∷ zs) ≡ false → child_pops q (number_of s) (ys ++ spot s ∷ zs) ≡ false
    → first_popper q (ys ++ spot s ∷ zs) ≡ some (number_of s)
unfolding child_pops
free_first ys zs s q l h m b c =
    let xs = ys ++ spot s ∷ zs in
    let r = played_reached h in
    let mine = in_right (spot s) ys (spot s ∷ zs) (inl refl) in
    first_is ys zs s q m
    (popper_none q ys
    (no_earlier xs (kinship h) q l ys zs s r refl m
    (λ o i e n. false≢true (sym b ∙ says_blocked xs r o s (i, e, both_share _ _ q l n m) mine))
    (λ o k i e n.
    false≢true
    (sym c ∙ pair_is xs r _ s mine ∙ says_some _ xs o i (true_both (ap (λ (x : Name). is_child x (name_of s)) e ∙ says_child k (name_of s)) n)))))

-- UNDER A STEP: ys ++ spot s ∷ zs becomes ys ++ (made s a ++ zs)
module _ (ys zs : List Item) (s : Task) (q : ℕ) where
  abbrev Old : List Item
  Old = ys ++ spot s ∷ zs

  abbrev New : Act → List Item
  New a = ys ++ (made s a ++ zs)

  abbrev Rest : Option ℕ
  Rest = first_popper q zs

  old_is : first_popper q Old ≡ or_else (first_popper q ys) (pick (mayPop (rights_of s) q) (some (number_of s)) Rest)
  unfolding first_popper
  old_is = popper_append q ys (spot s ∷ zs)

  pub new_is : (a : Act) → first_popper q (New a) ≡ or_else (first_popper q ys) (or_else (first_popper q (made s a)) Rest)
  new_is a = popper_append q ys (made s a ++ zs) ∙ ap (or_else (first_popper q ys)) (popper_append q (made s a) zs)

  -- what stands in place of the spot pops as the spot did
  pub kept_when : (a : Act) → first_popper q (made s a) ≡ first_popper q (spot s ∷ []) → first_popper q (New a) ≡ first_popper q Old
  kept_when a e =
      new_is a
      ∙ ap (λ (o : Option ℕ). or_else (first_popper q ys) (or_else o Rest)) e
      ∙ ap (or_else (first_popper q ys)) (sym (popper_append q (spot s ∷ []) zs))
      ∙ sym (popper_append q ys (spot s ∷ zs))

  -- the first popper is another task: it stays, where what the step makes pops only if s does
  pub other_first : (a : Act) (h : ℕ) → first_popper q Old ≡ some h → (h ≡ number_of s → ⊥) → (mayPop (rights_of s) q ≡ false → first_popper q (made s a) ≡ none)
      → first_popper q (New a) ≡ some h
  unfolding or_else
  other_first a h e n f = go (first_popper q ys) refl (mayPop (rights_of s) q) refl
    where
      go : (o : Option ℕ) → first_popper q ys ≡ o → (b : Bool) → mayPop (rights_of s) q ≡ b → first_popper q (New a) ≡ some h
      go (some m) d b c =
          new_is a
          ∙ ap (λ (x : Option ℕ). or_else x (or_else (first_popper q (made s a)) Rest)) d
          ∙ sym (ap (λ (x : Option ℕ). or_else x (pick (mayPop (rights_of s) q) (some (number_of s)) Rest)) d)
          ∙ sym old_is
          ∙ e
      go none d true c =
          absurd
          (n
          (sym
          (some-injective _ _
          (sym (old_is ∙ ap (λ (x : Option ℕ). or_else x (pick (mayPop (rights_of s) q) (some (number_of s)) Rest)) d ∙ halt _ _ c) ∙ e))))
      go none d false c =
          new_is a
          ∙ ap (λ (x : Option ℕ). or_else (first_popper q ys) (or_else x Rest)) (f c)
          ∙ ap (or_else (first_popper q ys)) (sym (pass (some (number_of s)) c refl))
          ∙ sym old_is
          ∙ e

-- A TASK THAT MAY POP NOTHING IS NOT BLOCKED: it shares no pop right, not even with itself.
use Rattle.std.specs.Prelude.{◌≡◌, refl, Bool, true, false, not, List, ℕ, zero, suc, leb}
use Rattle.std.proofs.Common.{ap, sym, eq-eqb}
use Rattle.std.proofs.lemmas.Bool.{false≢true}
use Rattle.spec_words.specs.Words.{load, pick, both, both_right_off, neither, neither_true, pass, halt}
use Rattle.spec_layout.specs.Layout.{NONE, OLDER, rights_of, record_of}
use Rattle.spec_tree.specs.Rights.{pops, some_queue, shares_pop}
use Rattle.spec_tree.specs.Tour.{sibling}
use Rattle.spec_outcomes.specs.Waits.{blocked}

-- a right that a does not share with itself it shares with nobody
itself : (x a : Bool) → both a a ≡ false → both x a ≡ false
unfolding both pick
itself x true e = absurd (false≢true (sym e))
itself x false e = both_right_off x refl

pub shares_none : (x a : ℕ) → shares_pop a a ≡ false → shares_pop x a ≡ false
unfolding shares_pop some_queue
shares_none x a e =
    let f = neither_true _ _ e in
    let g = neither_true _ _ f.1 in
    let h = neither_true _ _ g.1 in
    neither (itself (pops x 0) (pops a 0) f.0)
    (neither (itself (pops x 1) (pops a 1) g.0) (neither (itself (pops x 2) (pops a 2) h.0) (itself (pops x 3) (pops a 3) h.1)))

-- a walk that nobody stops
passes_all : (k : ℕ) (f : ℕ → Bool) (recs : ℕ → List ℕ) → ((c : ℕ) → f c ≡ false) → (c : ℕ) → sibling k f recs c ≡ NONE
unfolding sibling
passes_all zero f recs h c = refl
passes_all (suc k) f recs h c = go (leb 128 c) refl (passes_all k f recs h (load (recs c) OLDER))
  where
    go : {n : ℕ} (b : Bool) → leb 128 c ≡ b → n ≡ NONE → pick (leb 128 c) NONE (pick (f c) c n) ≡ NONE
    go true e z = halt _ _ e
    go false e z = pass _ e (pass _ (h c) z)

pub pops_nothing : (m : List ℕ) (t : ℕ) → shares_pop (rights_of m t) (rights_of m t) ≡ false → blocked m t ≡ false
unfolding blocked
pops_nothing m t e =
    ap not (eq-eqb _ NONE (passes_all 128 (λ c. shares_pop (rights_of m c) (rights_of m t)) (record_of m) (λ c. shares_none (rights_of m c) (rights_of m t) e) _))

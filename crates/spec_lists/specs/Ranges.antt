-- A test of each number of a range, as the library's `all` says it.
use Rattle.std.specs.Prelude.{◌≡◌, refl, Bool, true, false, ◌&&◌, ℕ, zero, suc, ◌+◌}
use Rattle.std.specs.List.{list_all, range_with_len}
use Rattle.std.proofs.Common.{ap, ◌∙◌}
use Rattle.spec_words.specs.Words.{pick, both}
use Rattle.spec_lists.specs.Tests.{upto}

pub and_both : (a b : Bool) → a && b ≡ both a b
unfolding both pick
and_both true b = refl
and_both false b = refl

pub all_upto : (f : ℕ → Bool) (n i : ℕ) → list_all f (range_with_len i n) ≡ upto f n i
unfolding upto
all_upto f zero i = refl
all_upto f (suc n) i = and_both (f i) _ ∙ ap (both (f i)) (all_upto f n (i + 1))

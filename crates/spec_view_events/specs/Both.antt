-- A conjunction of three.
use Rattle.std.specs.Prelude.{◌≡◌, refl, Bool, true, false}
use Rattle.spec_words.specs.Words.{pick, both}

pub grouped : (a b x : Bool) → both (both a b) x ≡ both a (both b x)
unfolding both pick
grouped true b x = refl
grouped false b x = refl

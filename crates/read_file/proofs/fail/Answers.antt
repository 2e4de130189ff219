use Rattle.read_file.proofs.Said.{said}
use Rattle.read_file.proofs.fail.Goals as goal

pub returns : goal.returns
returns g c =
    said c.write_all-4.result _ _ _ _ _ _ _ c.in_ok-write_all.ensures.bytes c.in_ok-write_all-2.ensures.bytes c.in_ok-write_all-3.ensures.bytes
    c.write_all-4.ensures.bytes

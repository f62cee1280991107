use Rattle.std.proofs.Common.{refl}
use Rattle.cg_report.specs.declared.file.FileCause.TheVariants.{TooLong}
use Rattle.cg_files.proofs.ShelfLemmas.{too_long, read_once, missed}
use Rattle.cg_files.proofs.EndLemmas.{refuse_one, miss_one}
use Rattle.cg_files.proofs.read.bytes_of.Goals as goal

pub returns-in-Ok-TooLong-clause-fault : goal.returns-in-Ok-TooLong-clause-fault
returns-in-Ok-TooLong-clause-fault g c =
    λ given.
    let (bytes, found, long) = too_long _ _ c.args.name.now _ _ _ c.in-Ok-TooLong.field-0-is c.in-Ok-TooLong.ensures.told in
    refuse_one given _ _ (record { ref = c.args.file; name = c.args.name.now }) bytes 0 TooLong found (refl, long) (read_once _ _ c.args.name.now _ _ _ c.read.ensures.told)

pub returns-in-Err-Failed-clause-fault : goal.returns-in-Err-Failed-clause-fault
returns-in-Err-Failed-clause-fault g c =
    λ given.
    miss_one given _ _ (record { ref = c.args.file; name = c.args.name.now }) (missed _ _ c.args.name.now _ _ _ c.in-Err-Failed.field-0-is c.in-Err-Failed.ensures.told)
    (read_once _ _ c.args.name.now _ _ _ c.read.ensures.told)

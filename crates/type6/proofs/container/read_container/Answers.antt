use Rattle.std.proofs.Common.{rules, ◌≡◌}
use Rattle.tag.specs.Checks.{fine, first_of}
use Rattle.type6.specs.Container.{checks}
use Rattle.type6.proofs.Reading.{readable}
use Rattle.type6.proofs.container.read_container.Goals as goal

pub returns : goal.returns
returns c =
    let passes : first_of (checks c.args.image.now) ≡ fine = search rules in
    readable c.args.image.now passes _ (record {
      size_is = c.block_size-size.ensures.0;
      blocks_are = search rules;
      file_is = search rules;
      capacity_is = search rules;
      nlen_is = search rules;
      writable_is = search rules;
    })

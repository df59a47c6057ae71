use Rattle.std.proofs.Common.{refl}
use Rattle.type6.specs.Container.{container_blocks}
use Rattle.type6.proofs.Reading.{file-low, container-few}
use Rattle.type6.proofs.container.container_blocks.Goals as goal

pub returns : goal.returns
unfolding container_blocks
returns c = (refl, container-few c.args.size c.requires.0, file-low c.args.size c.requires.0 c.requires.1)

-- The loop keeps: storing the blocks from k on in the image so far gives the same image as storing all of them in the image handed
-- in.
use Rattle.std.proofs.Common.{◌≡◌, ◌*◌, map, drop}
use Rattle.tag.specs.Stores.{puts}
use Rattle.type3.specs.Codec.{stores_of}
use Rattle.type3_commands.specs.Views.InPlace.{number}
use Rattle.type3_model.proofs.stores.store_blocks.Given as goal

abbrev pub invariant-loop-k : goal.invariant-loop-k
invariant-loop-k l =
    puts l.initial.image (stores_of (map number l.listed.elements.now) l.listed.blockdata.now)
    ≡ puts l.image (stores_of (map number (drop l.k l.listed.elements.now)) (drop (16 * l.k) l.listed.blockdata.now))

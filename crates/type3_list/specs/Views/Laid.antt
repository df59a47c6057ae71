-- The list that a `WriteList` of the code stands for.
-- Assumes nothing.
use Rattle.std.specs.Prelude.{List, ℕ, length}
use Rattle.type3_list.specs.declared.WriteList.{WriteList}
use Rattle.type3_list.specs.Views.Listing.{list_as, list_length}

-- its bytes, and how many they are
abbrev pub laid : WriteList → List ℕ
laid w = list_as w.idm w.image.now w.message.now w.information.ln w.information.busy w.width w.turns w.blocks.now

abbrev pub laid_length : WriteList → ℕ
laid_length w = list_length w.information.busy w.turns (length w.blocks.now)

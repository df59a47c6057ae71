-- Type 3's write command, called Update in the NFC Forum's paper, as bytes. They are its code 08h; the IDm, eight bytes; 01h, the
-- number of services; 09h 00h, the service's code, low byte first; the block count b; the block list, an element for each block;
-- and 16·b bytes of block data. The codec takes the IDm, Nbw and Nmaxb.
-- Assumes nothing.
use Rattle.std.specs.Prelude.{Bool, true, not, ◌&&◌, cond, List, [], ◌∷◌, ◌++◌, map, ℕ, zero, suc, ◌+◌, ◌*◌, ◌/◌, leb, eqb, length, take, drop}
use Rattle.tag.specs.Bytes.{byte, same, has}
use Rattle.tag.specs.Refusals.{Refusal, positioned, malformed_command}
use Rattle.tag.specs.Stores.{Store, Command, malformed, stores}
use Rattle.tag.specs.TagType.{Output, refused_output, fitted}
use Rattle.type3.specs.Update.{blocks_per_command}

-- a block list element: 80h and the block's number, a byte
abbrev pub element_bytes : ℕ → List ℕ
element_bytes b = 0x80 ∷ b ∷ []

abbrev pub block_list_bytes : List ℕ → List ℕ
block_list_bytes [] = []
block_list_bytes (b ∷ bs) = element_bytes b ++ block_list_bytes bs

-- the block listed at the front, with what follows
pub data Element : Type 0 where
  unlisted : Element
  listed : ℕ → List ℕ → Element

abbrev pub element_of : List ℕ → Element
element_of [] = unlisted
element_of (t ∷ []) = unlisted
element_of (t ∷ b ∷ rest) = cond (eqb t 0x80) (listed b rest) unlisted

-- several blocks listed at the front, with what follows
pub data BlockList : Type 0 where
  no_block_list : BlockList
  block_list : List ℕ → List ℕ → BlockList

abbrev pub with_element : ℕ → BlockList → BlockList
with_element b no_block_list = no_block_list
with_element b (block_list bs rest) = block_list (b ∷ bs) rest

unfoldable pub block_list_of : ℕ → List ℕ → BlockList
block_list_of zero bytes = block_list [] bytes
block_list_of (suc k) bytes = elim (element_of bytes) [ unlisted ↦ no_block_list | listed b rest ↦ with_element b (block_list_of k rest) ]

-- each is at most Nmaxb and a byte, and none is listed twice
abbrev pub listable : ℕ → List ℕ → Bool
listable nmaxb [] = true
listable nmaxb (b ∷ bs) = leb b nmaxb && leb b 255 && not (has b bs) && listable nmaxb bs

-- b from 1 to w, blocks at most Nmaxb, none listed twice
abbrev pub well_listed : ℕ → ℕ → List ℕ → Bool
well_listed nbw nmaxb bs = leb 1 (length bs) && leb (length bs) (blocks_per_command nbw) && listable nmaxb bs

-- the bytes up to the block count
abbrev pub opening : List ℕ → List ℕ
opening idm = 0x08 ∷ idm ++ 0x01 ∷ 0x09 ∷ 0x00 ∷ []

abbrev pub command_bytes : List ℕ → List ℕ → List ℕ → List ℕ
command_bytes idm bs bytes = opening idm ++ length bs ∷ block_list_bytes bs ++ bytes

-- encodes these blocks and their bytes: 20, then 12, else the number of bytes
abbrev pub encode_by : List ℕ → ℕ → ℕ → List ℕ → List ℕ → ℕ → Output
encode_by idm nbw nmaxb bs bytes room =
    cond (well_listed nbw nmaxb bs) (fitted room (13 + 18 * length bs) (command_bytes idm bs bytes)) (refused_output malformed_command)

-- the first b of the blocks and 16·b of the bytes, written to a buffer with this much room: 20, then 12, else the number of bytes
abbrev pub encode : List ℕ → ℕ → ℕ → ℕ → List ℕ → List ℕ → ℕ → Output
encode idm nbw nmaxb b bs bytes room =
    cond (leb b (length bs)) (encode_by idm nbw nmaxb (take b bs) (take (16 * b) bytes) room) (refused_output malformed_command)

-- a command read: the blocks and their bytes, or a refusal
pub data Decoded : Type 0 where
  undecoded : Refusal → Decoded
  decoded : List ℕ → List ℕ → Decoded

-- by the block list, once the opening and the count are taken; one command a call: 20 at position 0
unfoldable pub decode_by : ℕ → ℕ → BlockList → Decoded
decode_by nbw nmaxb no_block_list = undecoded (positioned malformed_command 0)
decode_by nbw nmaxb (block_list bs bytes) =
    cond (well_listed nbw nmaxb bs && eqb (length bytes) (16 * length bs)) (decoded bs bytes) (undecoded (positioned malformed_command 0))

unfoldable pub decode : List ℕ → ℕ → ℕ → List ℕ → Decoded
decode idm nbw nmaxb bytes =
    cond (same (take 12 bytes) (opening idm)) (decode_by nbw nmaxb (block_list_of (byte bytes 12) (drop 13 bytes))) (undecoded (positioned malformed_command 0))

-- what a command stores: sixteen bytes for each block
abbrev pub stores_of : List ℕ → List ℕ → List Store
stores_of [] bytes = []
stores_of (b ∷ bs) bytes = record { at = 16 * b; bytes = take 16 bytes } ∷ stores_of bs (drop 16 bytes)

abbrev pub command_of : Decoded → Command
command_of (undecoded r) = malformed
command_of (decoded bs bytes) = stores (stores_of bs bytes)

-- the bytes of a command that stores these blocks
abbrev pub stored_bytes : List Store → List ℕ
stored_bytes [] = []
stored_bytes (s ∷ ss) = s.bytes ++ stored_bytes ss

abbrev pub encoded : List ℕ → List Store → List ℕ
encoded idm ss = command_bytes idm (map (λ s. s.at / 16) ss) (stored_bytes ss)

-- how many bytes a command takes, by its block count
abbrev pub span : List ℕ → ℕ
span bytes = 13 + 18 * byte bytes 12

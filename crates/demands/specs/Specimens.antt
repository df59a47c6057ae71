-- The thirteen specimen tags that the requirements mark P, and those of the requests, as one table under one claim. Each row gives
-- the bytes of a tag, a question and the answer that the requirements state. The checker computes every answer from the definitions,
-- by `refl`.
-- Assumes nothing.
use Rattle.std.specs.Prelude.{◌≡◌, refl, Bool, true, false, ◌&&◌, List, [], ◌∷◌, ◌++◌, take, drop, replicate}
use Rattle.tag.specs.Bytes.{same}
use Rattle.tag.specs.Reading.{message, empty, being-written}
use Rattle.tag.specs.Plan.{picks}
use Rattle.tag.specs.TagType.{writing, split_list}
use Rattle.tag.specs.Judge.{fault, judge}
use Rattle.tlv.specs.Areas.{allowed_area, without}
use Rattle.tlv.specs.Walk.{long_by, length_by, pass_value, area_by, control_by, find}
use Rattle.tlv_tag.specs.Message.{locate_by, locate, capacity_in, reading}
use Rattle.tlv_tag.specs.Update.{length_field}
use Rattle.type2.specs.Codec.{decode}
use Rattle.type3.specs.Message as message3
use Rattle.type3.specs.Codec as codec3
use Rattle.type6.specs.Container.{size_by, container_blocks}
use Rattle.type6.specs.Message as message6
use Rattle.type6.specs.Codec as codec6
use Rattle.demands.specs.Questions.{tag2, small, large, tag3_by, tag3_of, tag3, tag6, card, slim, longest, forum, some, read, written, written_at, list_of, judge_list, refuses, reads, fits, holds_byte, gives, accepts, refuses_at, outcome, numbers, Row, row2, row3, row6, judges6, version2, version3}

-- is every answer the one expected
pub holds : List Row → Bool
unfolding picks writing split_list fault judge allowed_area without long_by length_by pass_value area_by control_by find locate_by locate capacity_in reading length_field decode message3.announce_by message3.reading codec3.block_list_of codec3.decode_by codec3.decode size_by container_blocks message6.reading codec6.decode
holds [] = true
holds (r ∷ rs) = same (numbers (outcome r.kind r.image r.question)) (numbers r.expected) && holds rs

-- ---- the table

pub table : List Row
table =
    -- a message of three bytes at 18
    row2 (small (0x03 ∷ 0x03 ∷ 0xD0 ∷ 0x00 ∷ 0x00 ∷ 0xFE ∷ [])) read (reads message 18 3 false true 46)
    -- empty
    ∷ row2 (small (0x03 ∷ 0x00 ∷ 0xFE ∷ [])) read (reads empty 0 0 false true 46)
    -- size 0: 8
    ∷ row2 (tag2 64 (0xE1 ∷ 0x10 ∷ 0x00 ∷ 0x00 ∷ [])) read (refuses 8)
    -- u = 47: 46 fits, 47 gets 11
    ∷ row2 (small (0x03 ∷ 0x00 ∷ 0xFE ∷ [])) (written 46) fits
    ∷ row2 (small (0x03 ∷ 0x00 ∷ 0xFE ∷ [])) (written 47) (refuses 11)
    -- u = 255 and u = 256: 254 fits; the second leaves room for FEh
    ∷ row2 (large 255) (written 254) fits
    ∷ row2 (large 255) (written_at 254 279) (holds_byte 0xD0)
    ∷ row2 (large 256) (written 254) fits
    ∷ row2 (large 256) (written_at 254 279) (holds_byte 0xFE)
    -- u = 257: 255 gets 11; u = 258: 255 fits
    ∷ row2 (large 257) (written 255) (refuses 11)
    ∷ row2 (large 258) (written 255) fits
    -- length FF 00 FE: 7
    ∷ row2 (small (0x03 ∷ 0xFF ∷ 0x00 ∷ 0xFE ∷ [])) read (refuses 7)
    -- the last data byte is 03h: 7
    ∷ row2 (small (replicate 47 0x00 ++ 0x03 ∷ [])) read (refuses 7)
    -- Type 3: 35 bytes; 208 fits, 209 gets 11
    ∷ row3 (tag3 0x00 0x46) read (reads message 16 35 false true 208)
    ∷ row3 (tag3 0x00 0x46) (written 208) fits
    ∷ row3 (tag3 0x00 0x46) (written 209) (refuses 11)
    -- being written
    ∷ row3 (tag3 0x0F 0x55) read (reads being-written 0 0 false true 208)
    -- the checksum is wrong: 2
    ∷ row3 (tag3 0x00 0x47) read (refuses 2)
    -- the empty list on a tag that reads as the message, and on another
    ∷ row2 (small (0x03 ∷ 0x03 ∷ 0xD0 ∷ 0x00 ∷ 0x00 ∷ 0xFE ∷ [])) (judge_list (0xD0 ∷ 0x00 ∷ 0x00 ∷ []) []) (accepts 0)
    ∷ row2 (small (0x03 ∷ 0x00 ∷ 0xFE ∷ [])) (judge_list (0xD0 ∷ 0x00 ∷ 0x00 ∷ []) []) (refuses_at 23 0)
    -- E1, Type 2: versions 11h and 1Fh read; 00h, 01h, 0Fh and 20h get 3
    ∷ version2 0x11 (reads message 18 3 false true 46)
    ∷ version2 0x1F (reads message 18 3 false true 46)
    ∷ version2 0x00 (refuses 3)
    ∷ version2 0x01 (refuses 3)
    ∷ version2 0x0F (refuses 3)
    ∷ version2 0x20 (refuses 3)
    -- E1, Type 3: the same; 20h with a wrong checksum gets 2
    ∷ version3 0x11 (reads message 16 35 false true 208)
    ∷ version3 0x1F (reads message 16 35 false true 208)
    ∷ version3 0x00 (refuses 3)
    ∷ version3 0x01 (refuses 3)
    ∷ version3 0x0F (refuses 3)
    ∷ version3 0x20 (refuses 3)
    ∷ row3 (tag3_of 0x20 0x00 0x57) read (refuses 2)
    -- E2, from here on: 003's examples A.1 and A.2. The judge accepts an empty list only if the tag already holds the message
    ∷ row6 (card (0x03 ∷ 0x00 ∷ 0xD0 ∷ 0x00 ∷ 0x00 ∷ [])) read (reads message 10 3 false true 118)
    ∷ row6 (card (0x03 ∷ 0x00 ∷ 0xD0 ∷ 0x00 ∷ 0x00 ∷ [])) (judge_list (0xD0 ∷ 0x00 ∷ 0x00 ∷ []) []) (accepts 0)
    ∷ row6 (card (0x12 ∷ 0x00 ∷ forum)) read (reads message 10 18 false true 118)
    ∷ row6 (card (0x12 ∷ 0x00 ∷ forum)) (judge_list forum []) (accepts 0)
    -- empty; read-only, with the reserved bits of the size byte set
    ∷ row6 (card []) read (reads empty 0 0 false true 118)
    ∷ row6 (tag6 128 (0x1F ∷ 0xE3 ∷ 0xFF ∷ 0x1E ∷ 0x03 ∷ [])) read (reads message 10 3 false false 118)
    -- 7 bytes: 1; 8,192 read, 8,193 get 1
    ∷ row6 (take 7 (card [])) read (refuses 1)
    ∷ row6 (longest 8192) read (reads empty 0 0 false true 8158)
    ∷ row6 (longest 8193) read (refuses 1)
    -- NDF in place of NDE: 2; version 11h: 3; access 0Fh: 4
    ∷ row6 (0x4E ∷ 0x44 ∷ 0x46 ∷ drop 3 (card [])) read (refuses 2)
    ∷ row6 (0x4E ∷ 0x44 ∷ 0x45 ∷ 0x11 ∷ drop 4 (card [])) read (refuses 3)
    ∷ row6 (tag6 128 (0x1F ∷ 0x03 ∷ 0x0F ∷ 0x1E ∷ [])) read (refuses 4)
    -- one block short, one too many, MAX_LEN one too large: 5
    ∷ row6 (take 124 (card [])) read (refuses 5)
    ∷ row6 (card [] ++ replicate 4 0x00) read (refuses 5)
    ∷ row6 (tag6 128 (0x1F ∷ 0x03 ∷ 0x00 ∷ 0x1F ∷ [])) read (refuses 5)
    -- MAX_LEN 0, where NLEN would lie past the image, and a file of one byte: 7; NLEN may be m, 118, and one more gets 7
    ∷ row6 (tag6 8 (0x01 ∷ 0x03 ∷ 0x00 ∷ 0x00 ∷ [])) read (refuses 7)
    ∷ row6 (tag6 9 (0x08 ∷ 0x00 ∷ 0x00 ∷ 0x01 ∷ [])) read (refuses 7)
    ∷ row6 (card (0x76 ∷ 0x00 ∷ [])) read (reads message 10 118 false true 118)
    ∷ row6 (card (0x77 ∷ 0x00 ∷ [])) read (refuses 7)
    -- block sizes 3, 8 and 32: the file starts at 9, 8 and 32, and the message two bytes later
    ∷ row6 (tag6 15 (0x04 ∷ 0x02 ∷ 0x00 ∷ 0x02 ∷ 0xAA ∷ 0x01 ∷ [])) read (reads message 11 1 false true 4)
    ∷ row6 (tag6 16 (0x01 ∷ 0x07 ∷ 0x00 ∷ 0x01 ∷ 0x01 ∷ [])) read (reads message 10 1 false true 6)
    ∷ row6 (tag6 64 (0x01 ∷ 0x1F ∷ 0x00 ∷ 0x01 ∷ replicate 24 0xAA ++ 0x01 ∷ [])) read (reads message 34 1 false true 30)
    -- m = 0: empty, and one byte gets 11
    ∷ row6 (tag6 10 (0x04 ∷ 0x01 ∷ 0x00 ∷ 0x01 ∷ [])) read (reads empty 0 0 false true 0)
    ∷ row6 (tag6 10 (0x04 ∷ 0x01 ∷ 0x00 ∷ 0x01 ∷ [])) (written 1) (refuses 11)
    -- block size 1 reads; writing and judging get 14, after 10 and before 11
    ∷ row6 (slim 0x00) read (reads message 10 1 false true 1)
    ∷ row6 (slim 0x00) (written 1) (refuses 14)
    ∷ row6 (slim 0x00) (written 2) (refuses 14)
    ∷ row6 (slim 0xFF) (written 1) (refuses 10)
    ∷ row6 (slim 0x00) (judge_list (some 2) []) (refuses_at 14 0)
    ∷ row6 (slim 0xFF) (judge_list (some 2) []) (refuses_at 10 0)
    -- 118 fits, 119 gets 11; with MAX_LEN 1 in place of 30, 2 fits and 3 gets 11
    ∷ row6 (card []) (written 118) fits
    ∷ row6 (card []) (written 119) (refuses 11)
    ∷ row6 (tag6 128 (0x1F ∷ 0x03 ∷ 0x00 ∷ 0x01 ∷ [])) (written 2) fits
    ∷ row6 (tag6 128 (0x1F ∷ 0x03 ∷ 0x00 ∷ 0x01 ∷ [])) (written 3) (refuses 11)
    -- three bytes end at 12; the rest of that block is kept
    ∷ row6 (card (replicate 2 0x00 ++ replicate 6 0xAA)) (written_at 3 12) (holds_byte 0xD0)
    ∷ row6 (card (replicate 2 0x00 ++ replicate 6 0xAA)) (written_at 3 13) (holds_byte 0xAA)
    -- the judge: one command for all is accepted, and so is block 0 as it is
    ∷ judges6 (0x02 ∷ 0x21 ∷ 0x02 ∷ 0x02 ∷ 0x00 ∷ 0xD0 ∷ 0xD0 ∷ []) (accepts 1)
    ∷ judges6 (0x02 ∷ 0x21 ∷ 0x00 ∷ 0x4E ∷ 0x44 ∷ 0x45 ∷ 0x10 ∷ 0x02 ∷ 0x21 ∷ 0x02 ∷ 0x02 ∷ 0x00 ∷ 0xD0 ∷ 0xD0 ∷ []) (accepts 2)
    -- 04h, a second command cut short, block 32 of 32: 20
    ∷ judges6 (0x04 ∷ 0x21 ∷ 0x02 ∷ 0x02 ∷ 0x00 ∷ 0xD0 ∷ 0xD0 ∷ []) (refuses_at 20 0)
    ∷ judges6 (0x02 ∷ 0x21 ∷ 0x02 ∷ 0x00 ∷ 0x00 ∷ 0xD0 ∷ 0xD0 ∷ 0x02 ∷ 0x21 ∷ 0x02 ∷ 0x02 ∷ 0x00 ∷ 0xD0 ∷ []) (refuses_at 20 1)
    ∷ judges6 (0x02 ∷ 0x21 ∷ 0x20 ∷ 0x02 ∷ 0x00 ∷ 0xD0 ∷ 0xD0 ∷ []) (refuses_at 20 0)
    -- another version in the container: 21; the low byte of NLEN alone, for 258 bytes: 22; the empty list: 23
    ∷ judges6 (0x02 ∷ 0x21 ∷ 0x00 ∷ 0x4E ∷ 0x44 ∷ 0x45 ∷ 0x11 ∷ []) (refuses_at 21 0)
    ∷ row6 (tag6 512 (0x7F ∷ 0x03 ∷ 0x00 ∷ 0x7E ∷ [])) (judge_list (some 258) (0x02 ∷ 0x21 ∷ 0x02 ∷ 0x02 ∷ 0x00 ∷ 0xD0 ∷ 0xD0 ∷ []))
    (refuses_at 22 0)
    ∷ judges6 [] (refuses_at 23 0)
    -- E3, from here on: the capacity for u = 1, for 01's interrupted specimen with u = 38, and for u = 254 to 258
    ∷ row2 (small (replicate 46 0x00 ++ 0x03 ∷ [])) read (reads empty 0 0 false true 0)
    ∷ row2 (small (0x02 ∷ 0x03 ∷ 0x18 ∷ 0x04 ∷ 0x04 ∷ 0x03 ∷ 0x03 ∷ 0xD0 ∷ 0x11 ∷ 0x22 ∷ 0x33 ∷ 0x44 ∷ 0x00 ∷ 0x00 ∷ 0xFE ∷ [])) read
    (reads message 23 3 true true 37)
    ∷ row2 (large 254) read (reads empty 0 0 false true 253)
    ∷ row2 (large 255) read (reads empty 0 0 false true 254)
    ∷ row2 (large 256) read (reads empty 0 0 false true 254)
    ∷ row2 (large 257) read (reads empty 0 0 false true 254)
    ∷ row2 (large 258) read (reads empty 0 0 false true 255)
    -- u = 1 and u = 254: one byte more gets 11
    ∷ row2 (small (replicate 46 0x00 ++ 0x03 ∷ [])) (written 1) (refuses 11)
    ∷ row2 (large 254) (written 253) fits
    ∷ row2 (large 254) (written 254) (refuses 11)
    -- read-only: Type 2, Type 3, and Type 6 with blocks of 1 byte
    ∷ row2 (tag2 64 (0xE1 ∷ 0x10 ∷ 0x06 ∷ 0x0F ∷ 0x03 ∷ 0x03 ∷ 0xD0 ∷ 0x00 ∷ 0x00 ∷ 0xFE ∷ [])) read (reads message 18 3 false false 46)
    ∷ row3 (tag3_by 0x10 0x00 0x00 0x45) read (reads message 16 35 false false 208)
    ∷ row6 (slim 0xFF) read (reads message 10 1 false false 1)
    -- E4, from here on. Type 2: empty, so the first command is left out; one that holds the message; one that holds another; one shut
    -- by a write that broke off, with one of two blocks there
    ∷ row2 (small (0x03 ∷ 0x00 ∷ 0xFE ∷ [])) (list_of (0xD0 ∷ 0x00 ∷ 0x00 ∷ []))
    (gives 2 (0xA2 ∷ 0x05 ∷ 0x00 ∷ 0xFE ∷ 0x00 ∷ 0x00 ∷ 0xA2 ∷ 0x04 ∷ 0x03 ∷ 0x03 ∷ 0xD0 ∷ 0x00 ∷ []))
    ∷ row2 (small (0x03 ∷ 0x03 ∷ 0xD0 ∷ 0x00 ∷ 0x00 ∷ 0xFE ∷ [])) (list_of (0xD0 ∷ 0x00 ∷ 0x00 ∷ []))
    (gives 2 (0xA2 ∷ 0x04 ∷ 0x03 ∷ 0x00 ∷ 0xD0 ∷ 0x00 ∷ 0xA2 ∷ 0x04 ∷ 0x03 ∷ 0x03 ∷ 0xD0 ∷ 0x00 ∷ []))
    ∷ row2 (small (0x03 ∷ 0x03 ∷ 0xD0 ∷ 0x00 ∷ 0x01 ∷ 0xFE ∷ [])) (list_of (0xD0 ∷ 0x00 ∷ 0x00 ∷ []))
    (gives 3 (0xA2 ∷ 0x04 ∷ 0x03 ∷ 0x00 ∷ 0xD0 ∷ 0x00 ∷ 0xA2 ∷ 0x05 ∷ 0x00 ∷ 0xFE ∷ 0x00 ∷ 0x00 ∷ 0xA2 ∷ 0x04 ∷ 0x03 ∷ 0x03 ∷ 0xD0 ∷ 0x00 ∷ []))
    ∷ row2 (small (0x03 ∷ 0x00 ∷ 0xD0 ∷ 0x00 ∷ 0x00 ∷ 0xFE ∷ [])) (list_of (0xD0 ∷ 0x00 ∷ 0x00 ∷ []))
    (gives 1 (0xA2 ∷ 0x04 ∷ 0x03 ∷ 0x03 ∷ 0xD0 ∷ 0x00 ∷ []))
    -- Type 3, two blocks to a command: being written, with block 2 of three there; blocks 1 and 3 go into one command
    ∷ row3 (0x10 ∷ 0x04 ∷ 0x02 ∷ 0x00 ∷ 0x03 ∷ 0x00 ∷ 0x00 ∷ 0x00 ∷ 0x00 ∷ 0x0F ∷ 0x01 ∷ 0x00 ∷ 0x00 ∷ 0x00 ∷ 0x00 ∷ 0x29 ∷ replicate 16 0x00 ++ replicate 16 0xD0 ++ replicate 16 0x00)
    (list_of (some 48))
    (gives 2 (
    0x08 ∷ replicate 8 0x00 ++ 0x01 ∷ 0x09 ∷ 0x00 ∷ 0x02 ∷ 0x80 ∷ 0x01 ∷ 0x80 ∷ 0x03 ∷ replicate 32 0xD0
    ++ 0x08 ∷ replicate 8 0x00 ++ 0x01 ∷ 0x09 ∷ 0x00 ∷ 0x01 ∷ 0x80 ∷ 0x00
    ∷ 0x10 ∷ 0x04 ∷ 0x02 ∷ 0x00 ∷ 0x03 ∷ 0x00 ∷ 0x00 ∷ 0x00 ∷ 0x00 ∷ 0x00 ∷ 0x01 ∷ 0x00 ∷ 0x00 ∷ 0x30 ∷ 0x00 ∷ 0x4A ∷ []))
    -- Type 6: empty; NLEN 256 is not zero though its low byte is
    ∷ row6 (card []) (list_of (some 2)) (gives 1 (0x02 ∷ 0x21 ∷ 0x02 ∷ 0x02 ∷ 0x00 ∷ 0xD0 ∷ 0xD0 ∷ []))
    ∷ row6 (tag6 512 (0x7F ∷ 0x03 ∷ 0x00 ∷ 0x7E ∷ 0x00 ∷ 0x01 ∷ [])) (list_of (some 2))
    (gives 2 (0x02 ∷ 0x21 ∷ 0x02 ∷ 0x00 ∷ 0x00 ∷ 0x00 ∷ 0x00 ∷ 0x02 ∷ 0x21 ∷ 0x02 ∷ 0x02 ∷ 0x00 ∷ 0xD0 ∷ 0xD0 ∷ []))
    ∷ []

-- every answer of the table is the one that the requirements state
pub specimens : holds table ≡ true
unfolding holds table
specimens = refl

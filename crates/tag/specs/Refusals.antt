-- The refusals, by name, and what a refusal returns. The numbers are those of the table 'Refusal numbers' of the requirements
-- and of the requests. A refusal returns its number and, from 20 to 23, the position of the command.
-- Assumes nothing.
use Rattle.std.specs.Prelude.{◌&&◌, cond, ℕ, leb}

-- no tag of this type has an image of this length
abbrev pub image_size : ℕ
image_size = 1

-- Type 2: byte 12 is not the magic number E1h; Type 3: the checksum is wrong; Type 6: the first three bytes are not the letters NDE
abbrev pub not_ndef : ℕ
not_ndef = 2

abbrev pub unknown_version : ℕ
unknown_version = 3

-- Types 2 and 6: the access byte has a value that is not defined; Type 3: WriteFlag, RWFlag or Nbr has one
abbrev pub bad_access : ℕ
bad_access = 4

-- the data area reaches past the image; Type 6: the image has another length than its blocks, or MAX_LEN is over the blocks left
abbrev pub bad_data_area : ℕ
bad_data_area = 5

-- a control TLV has a length other than 3 or a reserved nibble
abbrev pub bad_control_tlv : ℕ
bad_control_tlv = 6

-- a TLV runs past the data area or has a bad length form; Type 3: Ln is over 16·Nmaxb; Type 6: NLEN is over m, or m is below 0
abbrev pub bad_length : ℕ
bad_length = 7

abbrev pub no_message_tlv : ℕ
no_message_tlv = 8

-- the message to write has length 0
abbrev pub empty_message : ℕ
empty_message = 9

abbrev pub not_writable : ℕ
not_writable = 10

abbrev pub message_too_long : ℕ
message_too_long = 11

-- the list, the bytes of a command, the message of records, a URI or its payload do not fit in the buffer
abbrev pub short_buffer : ℕ
short_buffer = 12

-- an interrupted message does not fit in the gathering buffer
abbrev pub short_gathering_buffer : ℕ
short_gathering_buffer = 13

-- Type 6: blocks of one byte split NLEN over two commands
abbrev pub block_too_small : ℕ
block_too_small = 14

abbrev pub malformed_command : ℕ
malformed_command = 20

-- the command changes a protected byte
abbrev pub protected_byte : ℕ
protected_byte = 21

-- after the command the tag is refused, or reads neither as the old message, nor as none, nor as the new one
abbrev pub misread : ℕ
misread = 22

-- the list ends and the tag does not read as the message
abbrev pub unfinished : ℕ
unfinished = 23

-- more than sixteen records in an NDEF message
abbrev pub too_many_records : ℕ
too_many_records = 30

-- a record that is a part of a chunked payload
abbrev pub chunked_record : ℕ
chunked_record = 31

-- a record that is cut short, a TNF with lengths that it does not allow, MB or ME in the wrong place, or a message without a record
abbrev pub malformed_record : ℕ
malformed_record = 32

-- no NDEF message gives the list of records to write
abbrev pub unwritable_records : ℕ
unwritable_records = 33

-- the payload of a URI record has no byte, or its first byte is no code of an abbreviation
abbrev pub bad_uri : ℕ
bad_uri = 34

-- a Smart Poster record inside four others
abbrev pub nested_too_deep : ℕ
nested_too_deep = 35

-- what a refusal returns: its number alone, or its number and the position of the command, counted from 0
pub data Refusal : Type 0 where
  plain : ℕ → Refusal
  positioned : ℕ → ℕ → Refusal

-- refusal r about the command at position p: only 20 to 23 return the position
abbrev pub refusal_at : ℕ → ℕ → Refusal
refusal_at r p = cond (leb malformed_command r && leb r unfinished) (positioned r p) (plain r)

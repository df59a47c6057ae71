-- The specimens are computed.
-- Assumes nothing.
use mathlib.Core.Path.{refl}
use Rattle.ndef.specs.Record.{tnf_allows}
use Rattle.ndef.specs.Header.{header_length, payload_length, id_length, record_length}
use Rattle.ndef.specs.Message.{checks_by, record_checks, part, record_by, record_of, onto, records_of, message_of}
use Rattle.ndef.specs.Places.{record_at, lies_in, numbers_of, table_of, first_place, places_in, place_of, places_of, read_by, read}
use Rattle.ndef.specs.Shortest.{header_bytes, record_bytes, message_bytes, is_shortest_by, is_shortest_header, are_shortest, is_shortest}
use Rattle.ndef.specs.Writing.{header_holds, is_writable, are_writable, is_writable_list, write_list, all_lie_in, is_list, write}
use Rattle.ndef.specs.Specimens.{SpecimensRead, SpecimensWritten, SpecimensShortest}

pub specimens-read : SpecimensRead
unfolding message_of records_of onto record_length record_of record_by part record_checks checks_by tnf_allows id_length header_length payload_length read read_by places_of place_of table_of numbers_of
specimens-read = (refl, refl)

pub specimens-written : SpecimensWritten
unfolding write is_list all_lie_in lies_in places_in first_place record_at part write_list is_writable_list are_writable is_writable header_holds tnf_allows message_bytes record_bytes header_bytes
specimens-written = (refl, refl)

pub specimens-shortest : SpecimensShortest
unfolding message_of records_of onto record_length record_of record_by part record_checks checks_by tnf_allows id_length header_length payload_length is_shortest are_shortest is_shortest_header is_shortest_by write_list is_writable_list are_writable is_writable header_holds message_bytes record_bytes header_bytes
specimens-shortest = (refl, refl, refl)

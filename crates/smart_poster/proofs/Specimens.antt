-- The specimens are computed.
-- Assumes nothing.
use mathlib.Core.Path.{refl}
use Rattle.ndef.specs.Record.{tnf_allows}
use Rattle.ndef.specs.Header.{header_length, payload_length, id_length, record_length}
use Rattle.ndef.specs.Message.{checks_by, record_checks, part, record_by, record_of, onto as onto-records, records_of, message_of}
use Rattle.uri.specs.Prefixes.{prefixes}
use Rattle.uri.specs.Payload.{uri_of}
use Rattle.smart_poster.specs.Records.{kind_of}
use Rattle.smart_poster.specs.Uris.{of_payload, onto, and_then, of_kind, of_record, of_records, of_parsed, of_poster}
use Rattle.smart_poster.specs.Specimens.{SpecimensFound}

pub specimens-found : SpecimensFound
unfolding of_poster of_parsed of_records of_record of_kind and_then onto of_payload kind_of uri_of prefixes message_of records_of onto-records record_length record_of record_by part record_checks checks_by tnf_allows id_length header_length payload_length
specimens-found = refl

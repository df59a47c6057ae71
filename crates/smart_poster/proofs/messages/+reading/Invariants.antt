-- The measure is twice the length of what is still to be read: of the message, and for a record of its payload, which is shorter than the
-- message. The loop over a message's records keeps what it has reached.
use Rattle.std.proofs.Common.{length, ◌+◌, ◌*◌}
use Rattle.smart_poster.specs.Uris.{of_poster}
use Rattle.smart_poster.proofs.Walking.{Reached}
use Rattle.smart_poster.proofs.messages.+reading.Given as goal

abbrev pub decreases-message_uri : goal.decreases-message_uri
decreases-message_uri l = 2 * length l.message.now

abbrev pub decreases-record_uri : goal.decreases-record_uri
decreases-record_uri l = 2 * length l.payload.now + 1

abbrev pub invariant-message_uri-loop-header : goal.invariant-message_uri-loop-header
invariant-message_uri-loop-header l = Reached (of_poster l.posters) l.message l.header-items l.header-index l.at l.first

use Rattle.std.proofs.Common.{◌∙◌, ap, rules, arith, refl}
use Rattle.std.proofs.lemmas.Result.{err_from_is_err_and}
use Rattle.smart_poster.specs.Uris.{of_kind, of_poster}
use Rattle.smart_poster.specs.First.{first_in}
use Rattle.smart_poster.proofs.Walking.{started, ended, fits, lies, shorter, failed, turned}
use Rattle.smart_poster.proofs.Arms.{no-uri, too-deep, inside-it, unreadable}
use Rattle.smart_poster.proofs.messages.+reading.Goals as goal
use Rattle.smart_poster.proofs.messages.+reading.Goals.{record_uri-in-Uri, record_uri-in-Poster-2+in_ok-found-in-Poster-2, record_uri-in-Other}

pub message_uri-returns-in_err-headers-clause-is : goal.message_uri-returns-in_err-headers-clause-is
message_uri-returns-in_err-headers-clause-is t c =
    let p = err_from_is_err_and c.from_residual.result c.from_residual.ensures.1 in
    rw (p.1, p.2) (unreadable (of_poster c.args.posters) c.args.message.now _ c.in_err-headers.ensures)

pub message_uri-loop-header-init : goal.message_uri-loop-header-init
message_uri-loop-header-init t c = started (of_poster c.args.posters) c.args.message.now _ (rw c.deref-header-items.ensures.0 c.in_ok-headers.ensures)

pub message_uri-place-place-requires : goal.message_uri-place-place-requires
message_uri-place-place-requires t c = omega (arith, fits c.loop-header.invariant c.loop-header-test.true)

pub message_uri-overflow_add-at : goal.message_uri-overflow_add-at
message_uri-overflow_add-at t c = omega (arith, fits c.loop-header.invariant c.loop-header-test.true)

pub message_uri-of-requires : goal.message_uri-of-requires
message_uri-of-requires t c = (lies c.loop-header.invariant c.loop-header-test.true _ c.place-place.ensures).type_inside

pub message_uri-of-payload-requires : goal.message_uri-of-payload-requires
message_uri-of-payload-requires t c = (lies c.loop-header.invariant c.loop-header-test.true _ c.place-place.ensures).payload_inside

pub message_uri-record_uri-requires : goal.message_uri-record_uri-requires
message_uri-record_uri-requires t c =
    let less = shorter c.loop-header.invariant c.loop-header-test.true _ c.place-place.ensures _ c.of-payload.ensures in
    (omega (arith, c.decreases, less), tt)

pub message_uri-returns-in_err-record_uri-clause-is : goal.message_uri-returns-in_err-record_uri-clause-is
message_uri-returns-in_err-record_uri-clause-is t c =
    let p = err_from_is_err_and c.from_residual-in_err-record_uri.result c.from_residual-in_err-record_uri.ensures.1 in
    let here = failed c.loop-header.invariant c.loop-header-test.true _ c.place-place.ensures in
    rw (p.1, p.2) (here _ (rw c.of.ensures at c.of-kind.ensures) _ c.of-payload.ensures _ c.in_err-record_uri.ensures.is)

pub message_uri-loop-header-preserved : goal.message_uri-loop-header-preserved
message_uri-loop-header-preserved t c =
    let on = turned c.loop-header.invariant c.loop-header-test.true _ c.place-place.ensures in
    let here = on _ (rw c.of.ensures at c.of-kind.ensures) _ c.of-payload.ensures in
    rw (c.or-first.ensures, c.record_len.ensures) (here _ c.in_ok-record_uri.ensures.is c.in_ok-record_uri.ensures.stands)

pub message_uri-returns-clause-is : goal.message_uri-returns-clause-is
message_uri-returns-clause-is t c = ended c.loop-header.invariant c.loop-header-test.false

pub record_uri-returns-in-Uri-2-clause-is : goal.record_uri-returns-in-Uri-2-clause-is
unfolding of_kind
record_uri-returns-in-Uri-2-clause-is t c = rw c.in-Uri-2.is (no-uri c.args.payload.now (search rules))

pub record_uri-returns-in-Poster-clause-is : goal.record_uri-returns-in-Poster-clause-is
unfolding of_kind
record_uri-returns-in-Poster-clause-is t c = rw c.in-Poster.is (too-deep c.args.payload.now c.args.posters c.if-posters-eq0.true)

pub record_uri-returns-in_err-found-in-Poster-2-clause-is : goal.record_uri-returns-in_err-found-in-Poster-2-clause-is
unfolding of_kind
record_uri-returns-in_err-found-in-Poster-2-clause-is t c =
    let p = err_from_is_err_and c.from_residual.result c.from_residual.ensures.1 in
    rw (p.1, p.2, c.in-Poster-2.is) (c.in_err-found-in-Poster-2.ensures.is ∙ ap first_in (inside-it c.args.payload.now c.args.posters c.if-posters-eq0.false))

pub record_uri-returns-clause-is : goal.record_uri-returns-clause-is
unfolding of_kind first_in
record_uri-returns-clause-is t c = elim c.match-kind.branch [
  | record_uri-in-Uri w ↦ rw (w.found-is, w.in-Uri.is) refl
  | record_uri-in-Poster-2+in_ok-found-in-Poster-2 w ↦
      rw (w.found-is, w.in-Poster-2.is) (w.in_ok-found-in-Poster-2.ensures.is ∙ ap first_in (inside-it c.args.payload.now c.args.posters w.if-posters-eq0.false))
  | record_uri-in-Other w ↦ rw (w.found-is, w.in-Other.is) refl
]

pub record_uri-returns-clause-stands : goal.record_uri-returns-clause-stands
record_uri-returns-clause-stands t c = elim c.match-kind.branch [
  | record_uri-in-Uri w ↦ rw w.found-is (search rules)
  | record_uri-in-Poster-2+in_ok-found-in-Poster-2 w ↦ rw w.found-is w.in_ok-found-in-Poster-2.ensures.stands
  | record_uri-in-Other w ↦ rw w.found-is tt
]

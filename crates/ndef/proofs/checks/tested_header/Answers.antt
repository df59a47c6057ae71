use Rattle.std.proofs.Common.{◌≡◌, sym, ◌∙◌, rules}
use Rattle.ndef.specs.Views.Headers.{header_of}
use Rattle.ndef.proofs.Testing.{some_bytes, all_there, chunk, sound, unsound, cut_short, nothing}
use Rattle.ndef.proofs.checks.tested_header.Goals as goal

pub returns-in_default-clause-is : goal.returns-in_default-clause-is
returns-in_default-clause-is c = nothing c.args.first c.args.rest.now c.in_default.len_below

pub returns-then-is_chunk-clause-is : goal.returns-then-is_chunk-clause-is
returns-then-is_chunk-clause-is c = chunk c.args.first c.args.rest.now (search rules)

pub returns-in-Some-clause-is : goal.returns-in-Some-clause-is
returns-in-Some-clause-is c =
    let is : c.in-Some.header ≡ header_of c.args.rest.now = c.in-Some.ensures in
    (is, sound c.args.first c.args.rest.now (search rules) (rw is at (sym c.may_stand.ensures ∙ c.if-may_stand.true)))

pub returns-in_default-at_front-clause-is : goal.returns-in_default-at_front-clause-is
returns-in_default-at_front-clause-is c =
    let is : c.in-Some.header ≡ header_of c.args.rest.now = c.in-Some.ensures in
    unsound c.args.first c.args.rest.now (search rules) (rw is at (sym c.may_stand.ensures ∙ c.if-may_stand.false))

pub returns-in_default-at_front-2-clause-is : goal.returns-in_default-at_front-2-clause-is
returns-in_default-at_front-2-clause-is c = cut_short c.args.first c.args.rest.now (search rules) c.in_default-at_front.ensures

pub returns-in-Some-clause-whole : goal.returns-in-Some-clause-whole
returns-in-Some-clause-whole c =
    let is : c.in-Some.header ≡ header_of c.args.rest.now = c.in-Some.ensures in
    rw is (some_bytes c.args.rest.now, all_there _ c.args.rest.now (sound c.args.first c.args.rest.now (search rules) (rw is at (sym c.may_stand.ensures ∙ c.if-may_stand.true))))

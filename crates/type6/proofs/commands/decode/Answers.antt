use Rattle.std.proofs.Common.{◌≡◌, ◌-◌, ◌++◌, arith, sym, ap, ◌∙◌, length, take, drop, length-drop, replicate}
use lib.Seq.{take_all}
use Rattle.tag.specs.Bytes.{byte, overwrite}
use Rattle.type6.specs.Codec.{decoded}
use Rattle.type6.specs.CodecContracts.{command_as}
use Rattle.type6.proofs.Encoding.{stored-bounds, carried-front}
use Rattle.type6.proofs.Modelling.{decode-formed, decode-malformed}
use Rattle.type6.proofs.commands.decode.Goals as goal

pub returns-then-not-is_command : goal.returns-then-not-is_command
returns-then-not-is_command c =
    let a = c.args in
    (sym (decode-malformed a.size a.blocks a.bytes.now (sym c.if-not-is_command.ensures)), tt)

pub returns : goal.returns
returns c =
    let a = c.args in
    let bs = a.bytes.now in
    let w = sym c.if-not-is_command.ensures in
    let e = decode-formed a.size a.blocks bs w in
    let s = stored-bounds a.size a.blocks bs w in
    let n : a.size ≡ length (drop 3 bs) = omega (arith, s.long, length-drop 3 bs) in
    let new = c.copy_from_slice.new.self in
    let held : new ≡ drop 3 bs = c.copy_from_slice.ensures.after ∙ take_all (length bs - 3) (drop 3 bs) (omega (arith, length-drop 3 bs)) in
    let array : new ++ drop a.size (replicate 32 0) ≡ overwrite (drop 3 bs) (replicate 32 0)
    = ap (λ x. x ++ drop a.size (replicate 32 0)) held ∙ ap (λ k. drop 3 bs ++ drop k (replicate 32 0)) n in (
      ap (λ b. decoded b (take a.size (new ++ drop a.size (replicate 32 0)))) c.from.ensures
          ∙ ap (λ x. decoded (byte bs 2) (take a.size x)) array
          ∙ ap (decoded (byte bs 2)) (carried-front a.size bs s.long)
          ∙ sym e,
      ap (λ b. record { block = record { 0 = b }; bytes = new ++ drop a.size (replicate 32 0) }) c.from.ensures
          ∙ ap (λ x. record { block = record { 0 = byte bs 2 }; bytes = x }) array
          ∙ ap command_as (sym e),
    )

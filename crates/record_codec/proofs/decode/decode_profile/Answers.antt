use Rattle.std.proofs.lemmas.Result.{IfOk-weaker}
use Rattle.record_codec.proofs.Made.{header_read}
use Rattle.record_codec.proofs.decode.decode_profile.Goals as goal

pub decode_header-requires : goal.decode_header-requires
decode_header-requires c = (c.requires.0, _, header_read c.args.view c.requires.0 c.args.bytes.now c.requires.1)

pub returns : goal.returns
returns c =
    IfOk-weaker c.decode_header.result _ _ (λ made is p h. is p _ (header_read c.args.view p c.args.bytes.now h)) c.decode_header.ensures

use Rattle.std.proofs.Common.{◌≡◌, ◌≤◌, IsUtf8, length, rules, arith}
use Rattle.manifest.proofs.Texts.{told}
use Rattle.manifest.proofs.read.document.Goals as goal

pub returns : goal.returns
returns c =
    let bytes = c.args.bytes.now in
    let text = c.in-Ok.text.now in
    let few : length bytes ≤ 65536 = omega arith in
    let utf8 : IsUtf8 bytes = search (rules, c.in-Ok.ensures.cases) in
    let same : text ≡ bytes = search (rules, c.in-Ok.ensures.cases) in
    told c.parse.result bytes text few utf8 same c.parse.ensures

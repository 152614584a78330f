use Rattle.std.proofs.Common.{take, sym}
use Rattle.std.proofs.lemmas.List.{drop-drop}
use Rattle.record_reader.proofs.item_reader.window.Window.skip.Goals as goal

pub returns : goal.returns
returns c = let w = c.args.self.now in sym (drop-drop c.args.count w.from (take w.to w.buffer.items))

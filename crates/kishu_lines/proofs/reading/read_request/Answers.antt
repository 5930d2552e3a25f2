use Rattle.std.proofs.Common.{◌≡◌, ℕ, ◌<◌, ◌^◌, List, length, Option, Some, None, IfSome, option_map, sym, ◌∙◌}
use Rattle.std.proofs.lemmas.Result.{IfOk-weaker}
use Rattle.kishu_model.specs.declared.request.Request as rust
use Rattle.kishu_model.specs.Reading.{Reads, reading}
use Rattle.kishu_model.specs.Values.{request_of}
use Rattle.kishu_model.specs.requests.Cells.{HasRoom}
use Rattle.kishu_lines.proofs.Rooms.{has_room}
use Rattle.kishu_lines.proofs.Tellings.{Reads-from_reading, reading-from_Reads}
use Rattle.kishu_lines.proofs.reading.read_request.Goals as goal

told : (o : Option rust.Request) (line : List ℕ) → option_map request_of o ≡ reading line → IfSome o (λ q. Reads line (request_of q))
told None line is = tt
told (Some q) line is = Reads-from_reading line (request_of q) (sym is)

fits : (o : Option rust.Request) (line : List ℕ) → option_map request_of o ≡ reading line → IfSome o (λ q. length line < 2 ^ 24 → HasRoom (request_of q))
fits None line is = tt
fits (Some q) line is = λ short. has_room line (request_of q) (Reads-from_reading line (request_of q) (sym is)) short

pub returns-clause-found : goal.returns-clause-found
returns-clause-found c = IfOk-weaker c.request_of_line.result _ _ (λ o is. told o c.args.line.now is) c.request_of_line.ensures

pub returns-clause-only : goal.returns-clause-only
returns-clause-only c = λ q reads. IfOk-weaker c.request_of_line.result _ _ (λ o is. is ∙ reading-from_Reads c.args.line.now q reads) c.request_of_line.ensures

pub returns-clause-room : goal.returns-clause-room
returns-clause-room c = IfOk-weaker c.request_of_line.result _ _ (λ o is. fits o c.args.line.now is) c.request_of_line.ensures

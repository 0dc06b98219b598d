-- `handed::from_file` meets its contract: what reading gives; read, it has no more rules than places. No loop. Assumes nothing.
use Rattle.handed.specs.Steps.{file_told, read_few}
use Rattle.handed.proofs.from_file.Goals as goal

pub returns : goal.returns
returns c = (file_told c.args.bytes.now _ c.table.ensures, read_few c.args.bytes.now _ c.table.ensures)

-- Why nothing at a path is opened.
use Rattle.std.specs.declared.io.ErrorKind.{ErrorKind}
use Rattle.std.specs.declared.io.ErrorKind.TheVariants.{NotADirectory, NotFound, OutOfMemory, PermissionDenied, ReadOnlyFilesystem}
use Rattle.depot_cli.specs.declared.no_depot.NoDepot.TheVariants.{Disk, NoFile, NoPath, NoRights}
use Rattle.depot.specs.declared.place.Obstacle.{Obstacle}
use Rattle.depot.specs.declared.place.Obstacle.TheVariants.{Memory, NoDepot}

-- by the kind of error that the system reports
abbrev pub obstacle_of : ErrorKind → Obstacle
obstacle_of OutOfMemory = Memory
obstacle_of NotFound = NoDepot NoFile
obstacle_of NotADirectory = NoDepot NoPath
obstacle_of PermissionDenied = NoDepot NoRights
obstacle_of ReadOnlyFilesystem = NoDepot NoRights
obstacle_of _ = NoDepot Disk

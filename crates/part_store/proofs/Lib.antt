mod Meaning
mod Rows
mod Writes
mod Runs
mod UserRows
mod ContentRows
mod Ordered
mod EntryRows
mod Equals
mod Gaining
mod Apart
pub mod Digests
mod Programs
mod Numbers
mod Creation
mod Finding
mod Reading
mod Filed
mod FiledAll
pub mod Entering
mod Afterwards
mod Removing
mod Verified
mod Listed
mod NameOrder
mod ProgramList
mod UserList
mod Looks
mod Sums
mod Replacing
mod Putting
mod Carrying
mod Showing
mod ListedFailing
mod Siblings
mod Opened
pub mod Stored
mod Commits
pub mod Crashed
pub mod Unfinished
mod Faults
mod Asked
pub mod Failing
mod Readable
mod Shown
mod Stopped
mod Parents
mod Deleting
mod Updating
mod Renewing
mod Causes
mod Inserting
mod Fitting
mod Room
mod NoRoom
mod RefusedAdding
mod RolledBack
mod Queries
mod Damaged
mod Referring
mod Scanned
mod Scrubs

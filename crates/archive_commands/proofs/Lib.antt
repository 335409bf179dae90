mod HeaderFaults
mod Judged
mod PutLaws
mod Stored
